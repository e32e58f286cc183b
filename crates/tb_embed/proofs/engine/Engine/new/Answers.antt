-- Found by the prover itself; on file since the check of an edit then costs less.
use Rattle.std.proofs.Common.{rules}
use Rattle.tb_embed.proofs.engine.Engine.new.Goals as goal

pub returns-clause-opened : goal.returns-clause-opened
returns-clause-opened c = search rules
