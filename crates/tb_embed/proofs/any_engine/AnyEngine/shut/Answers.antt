use Rattle.std.proofs.Common.{refl, sym, subst, ap, ◌∙◌, true}
use Rattle.tb_work.specs.declared.item.Item.TheVariants as item
use Rattle.tb_embed.proofs.Words.{AnyEngineState, QueuesBy, ticket_of}
use Rattle.tb_embed.proofs.AnyRun.{control_by}
use Rattle.tb_embed.proofs.any_engine.AnyEngine.shut.Goals as goal

pub returns-clause-ok : goal.returns-clause-ok
returns-clause-ok g c =
    let may_be = g.L.AnyLedger.is in
    let old = c.args.self.now in
    let done = c.in_ok-take_control.ensures in
    let open_yet = ap (λ (s : AnyEngineState _). s.shut) (sym c.self.view_is) ∙ c.if-self.false in
    subst (λ (s : AnyEngineState _). QueuesBy may_be old (ticket_of old.front.submitters item.Close) (record s { shut = true }))
    (sym c.self-2.view_is) (control_by may_be old c.take_control.new.self item.Close
    (record { takes = done.taken; steps = done.steps; sound = done.front; same = done.same }) refl tt refl open_yet)
