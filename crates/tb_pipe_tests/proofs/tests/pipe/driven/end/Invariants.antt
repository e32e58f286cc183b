use Rattle.std.proofs.Common.{◌≡◌}
use Rattle.tb_pipe_tests.proofs.tests.pipe.driven.end.Given as goal

abbrev pub invariant-loop : goal.invariant-loop
invariant-loop g l = l.submitter ≡ l.fn.submitter
