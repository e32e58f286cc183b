-- Found by the prover itself; on file since the check of an edit then costs less.
use Rattle.std.proofs.Common.{rules, arith}
use Rattle.std.proofs.lemmas.Grind.{common_steps}
use Rattle.tb_embed.proofs.any_engine.AnyEngine.flush.Goals as goal

pub returns-then-not-is_holding-clause-held : goal.returns-then-not-is_holding-clause-held
returns-then-not-is_holding-clause-held g c = grind (arith, common_steps)

pub returns-then-not-is_holding-clause-nothing : goal.returns-then-not-is_holding-clause-nothing
returns-then-not-is_holding-clause-nothing g c = search rules

pub returns-then-is_err-clause-held : goal.returns-then-is_err-clause-held
returns-then-is_err-clause-held g c = search rules

pub returns-then-is_err-clause-nothing : goal.returns-then-is_err-clause-nothing
returns-then-is_err-clause-nothing g c = search rules

pub returns-clause-held : goal.returns-clause-held
returns-clause-held g c = search rules

pub returns-clause-nothing : goal.returns-clause-nothing
returns-clause-nothing g c = search rules
