use Rattle.std.proofs.Common.{◌≡◌}
use Rattle.tb_submit.specs.clauses.Ends.{origin_of}
use Rattle.tb_pipe_tests.proofs.tests.pipe.queue_accounts.Given as goal

abbrev pub invariant-loop-id : goal.invariant-loop-id
invariant-loop-id g l = origin_of l.submitter ≡ origin_of l.initial.submitter
