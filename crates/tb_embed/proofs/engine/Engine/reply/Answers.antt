-- Found by the prover itself; on file since the check of an edit then costs less.
use Rattle.std.proofs.Common.{arith}
use Rattle.std.proofs.lemmas.Grind.{common_steps}
use Rattle.tb_embed.proofs.engine.Engine.reply.Goals as goal

pub returns-clause-some : goal.returns-clause-some
returns-clause-some c = grind (arith, common_steps)
