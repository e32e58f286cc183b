-- Found by the prover itself; on file since the check of an edit then costs less.
use Rattle.std.proofs.Common.{rules}
use Rattle.tb_embed.proofs.engine.Engine.reserve.Goals as goal

pub returns-then-is_err-clause-same : goal.returns-then-is_err-clause-same
returns-then-is_err-clause-same c = search rules

pub returns-clause-same : goal.returns-clause-same
returns-clause-same c = search rules
