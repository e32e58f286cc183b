use Rattle.std.proofs.Common.{◌≡◌}
use Rattle.tb_pipe_tests.proofs.tests.pipe.narrow.pulse_often.Given as goal

abbrev pub invariant-loop-moment : goal.invariant-loop-moment
invariant-loop-moment g l = l.control.seat ≡ l.initial.control.seat
