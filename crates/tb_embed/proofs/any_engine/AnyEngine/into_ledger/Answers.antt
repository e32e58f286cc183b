-- Found by the prover itself; on file since the check of an edit then costs less.
use Rattle.std.proofs.Common.{rules}
use Rattle.tb_embed.proofs.any_engine.AnyEngine.into_ledger.Goals as goal

pub returns-then-is_holding-clause-nothing : goal.returns-then-is_holding-clause-nothing
returns-then-is_holding-clause-nothing g c = search rules

pub returns-clause-nothing : goal.returns-clause-nothing
returns-clause-nothing g c = search rules

pub returns-clause-held : goal.returns-clause-held
returns-clause-held g c = search rules
