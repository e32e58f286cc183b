-- Found by the prover itself; on file since the check of an edit then costs less.
use Rattle.std.proofs.Common.{rules, arith}
use Rattle.std.proofs.lemmas.Grind.{common_steps}
use Rattle.tb_world.proofs.world.newcomers.Goals as goal

pub loop-init : goal.loop-init
loop-init c = search rules

pub loop-smaller : goal.loop-smaller
loop-smaller c = search rules

pub loop-preserved : goal.loop-preserved
loop-preserved c = grind (arith, common_steps)
