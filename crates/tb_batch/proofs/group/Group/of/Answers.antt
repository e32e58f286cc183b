-- Found by the prover itself; on file since the check of an edit then costs less.
use Rattle.std.proofs.Common.{arith}
use Rattle.std.proofs.lemmas.Grind.{common_steps}
use Rattle.tb_batch.proofs.group.Group.of.Goals as goal

pub invariant_of-result : goal.invariant_of-result
invariant_of-result c = grind (arith, common_steps)
