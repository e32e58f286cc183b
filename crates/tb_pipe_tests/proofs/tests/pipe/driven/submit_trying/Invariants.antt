use Rattle.std.proofs.Common.{◌≡◌}
use Rattle.tb_submit.specs.clauses.Ends.{origin_of}
use Rattle.tb_pipe_tests.proofs.tests.pipe.driven.submit_trying.Given as goal

abbrev pub invariant-loop : goal.invariant-loop
invariant-loop g l = origin_of l.submitter ≡ origin_of l.initial.submitter
