-- Found by the prover itself; on file since the check of an edit then costs less.
use Rattle.std.proofs.Common.{rules}
use Rattle.tb_pipe.proofs.batching.BatchRing.wait_for_more.Goals as goal

pub returns-then-may_hold-clause-batched : goal.returns-then-may_hold-clause-batched
returns-then-may_hold-clause-batched g c = search rules

pub returns-clause-batched : goal.returns-clause-batched
returns-clause-batched g c = search rules
