use Rattle.std.proofs.Common.{refl, sym, subst, ap, ◌∙◌, true}
use Rattle.tb_work.specs.declared.item.Item.TheVariants as item
use Rattle.tb_embed.proofs.Words.{EngineState, Queues, ticket_of}
use Rattle.tb_embed.proofs.EngineRun.{control_serves}
use Rattle.tb_embed.proofs.engine.Engine.shut.Goals as goal

pub returns-clause-ok : goal.returns-clause-ok
returns-clause-ok c =
    let old = c.args.self.now in
    let done = c.in_ok-take_control.ensures in
    let open_yet = ap (λ (e : EngineState). e.shut) (sym c.self.view_is) ∙ c.if-self.false in
    subst (λ (s : EngineState). Queues old (ticket_of old.front.submitters item.Close) (record s { shut = true }))
    (sym c.self-2.view_is) (control_serves item.Close
    (record { takes = done.taken; steps = done.steps; stopped = done.stopped; sound = done.front; same = done.same }) refl tt refl open_yet)
