-- Found by the prover itself; on file since the check of an edit then costs less.
use Rattle.std.proofs.Common.{rules}
use Rattle.tb_embed.proofs.any_engine.AnyEngine.reply.Goals as goal

pub returns-clause-none : goal.returns-clause-none
returns-clause-none g c = search rules
