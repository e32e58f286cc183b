use Rattle.std.proofs.Common.{◌≡◌}
use Rattle.tb_pipe_tests.specs.inside.Queue.{AreOf}
use Rattle.tb_pipe_tests.proofs.tests.submit.ahead.learn_all.Given as goal

abbrev pub invariant-loop : goal.invariant-loop
invariant-loop g l = record {
  same : l.control.seat ≡ l.fn.control.seat;
  left : AreOf l.fn.control l.left.items;
}
