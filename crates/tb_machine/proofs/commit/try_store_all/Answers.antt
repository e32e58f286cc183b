-- Found by the prover itself, but late; on file since a check then costs less.
use Rattle.std.proofs.Common.{arith, refl, rules}
use Rattle.tb_machine.proofs.Words.{common_steps}
use Rattle.tb_machine.proofs.commit.try_store_all.Goals as goal

pub loop-index-preserved : goal.loop-index-preserved
loop-index-preserved g c = grind (arith, common_steps)

pub returns-then-code-ne0-clause-attempt : goal.returns-then-code-ne0-clause-attempt
returns-then-code-ne0-clause-attempt g c = grind (arith, common_steps)

pub returns-clause-attempt : goal.returns-clause-attempt
returns-clause-attempt g c = grind (arith, common_steps)

pub loop-index-init : goal.loop-index-init
loop-index-init g c = record { clock = c.requires; extends = search rules; attempt = refl }
