use Rattle.std.proofs.Common.{◌≡◌, map}
use Rattle.tb_submit.specs.clauses.Ends.{origin_of}
use Rattle.tb_pipe_tests.proofs.tests.pipe.queued.queue_each.Given as goal

abbrev pub invariant-loop-submitter : goal.invariant-loop-submitter
invariant-loop-submitter g l = map origin_of l.after.items ≡ map origin_of l.yielded
