use Rattle.std.proofs.Common.{◌≡◌}
use Rattle.tb_submit.specs.clauses.Ends.{origin_of}
use Rattle.tb_pipe_tests.proofs.tests.pipe.queued.submit_four.Given as goal

abbrev pub invariant-loop-in_flight : goal.invariant-loop-in_flight
invariant-loop-in_flight g l = origin_of l.submitter ≡ origin_of l.initial.submitter
