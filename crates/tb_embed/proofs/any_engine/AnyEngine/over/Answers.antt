use Rattle.std.proofs.Common.{refl, rules}
use Rattle.tb_embed.proofs.AnyRun.{opened_by}
use Rattle.tb_embed.proofs.any_engine.AnyEngine.over.Goals as goal

pub returns-clause-opened : goal.returns-clause-opened
returns-clause-opened g c =
    opened_by g.L.AnyLedger.is c.in-Ok.front (rw (c.new-2.ensures, c.new-3.ensures) refl)
    c.in-Ok.ensures.front c.in-Ok.ensures.passes c.stopped.ensures.begins c.stopped.ensures.joined

pub returns-in-Err-clause-refusal : goal.returns-in-Err-clause-refusal
returns-in-Err-clause-refusal g c = search rules

pub returns-clause-refusal : goal.returns-clause-refusal
returns-clause-refusal g c = search rules
