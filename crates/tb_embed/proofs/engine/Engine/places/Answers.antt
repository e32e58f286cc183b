-- Found by the prover itself; on file since the check of an edit then costs less.
use Rattle.std.proofs.Common.{rules}
use Rattle.tb_embed.proofs.engine.Engine.places.Goals as goal

pub returns : goal.returns
returns c = search rules
