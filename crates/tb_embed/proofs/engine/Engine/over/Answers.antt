use Rattle.std.proofs.Common.{refl, ap}
use Rattle.tb_embed.proofs.Words.{FrontState}
use Rattle.tb_embed.proofs.Opened.{opened_over}
use Rattle.tb_embed.proofs.engine.Engine.over.Goals as goal

pub returns-clause-opened : goal.returns-clause-opened
returns-clause-opened c =
    let front_is = c.in-Ok.ensures.front in
    opened_over c.in-Ok.front
    (rw (c.over.ensures, c.new-2.ensures, c.new-3.ensures) refl) (ap (λ (f : FrontState). f.limit) front_is)
    (ap (λ (f : FrontState). f.submitters) front_is) c.in-Ok.ensures.passes
    (ap (λ (f : FrontState). f.stopped) front_is) c.requires
