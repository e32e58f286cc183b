use Rattle.std.proofs.Common.{◌≡◌}
use Rattle.tb_submit.specs.clauses.Ends.{origin_of}
use Rattle.tb_pipe_tests.proofs.tests.pipe.narrow.trade.Given as goal

abbrev pub invariant-loop-number : goal.invariant-loop-number
invariant-loop-number g l = origin_of l.client ≡ origin_of l.initial.client
