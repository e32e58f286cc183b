use Rattle.std.proofs.Common.{◌≡◌, map}
use Rattle.tb_submit.specs.clauses.Ends.{origin_of, end_origin}
use Rattle.tb_pipe_tests.proofs.tests.pipe.end_all.Given as goal

abbrev pub invariant-loop-submitter : goal.invariant-loop-submitter
invariant-loop-submitter g l = map end_origin l.ends.items ≡ map origin_of l.yielded
