use Rattle.std.proofs.Common.{refl, sym, subst, ◌∙◌}
use Rattle.tb_work.specs.declared.item.Item.TheVariants as item
use Rattle.tb_embed.proofs.Words.{Queues, ticket_of}
use Rattle.tb_embed.proofs.EngineRun.{Took, control_serves}
use Rattle.tb_embed.proofs.Restored.{open_if_not_refused}
use Rattle.tb_embed.proofs.engine.Engine.pulse.Goals as goal

pub returns-clause-ok : goal.returns-clause-ok
returns-clause-ok c =
    let old = c.args.self.now in
    let new = c.take_control.new.self in
    let done = c.in_ok-take_control.ensures in
    let x = item.Pulse c.args.nanoseconds in
    let open_yet = open_if_not_refused _ old.shut c.args.nanoseconds (sym c.refusal_of_pulse.ensures ∙ c.in_default.is) in
    subst (λ b. Queues old (ticket_of old.front.submitters x) (record new { shut = b })) (sym (done.same.1 ∙ open_yet))
    (control_serves x (subst (λ moment. Took old (ticket_of old.front.submitters (item.Pulse moment)) new) c.new.ensures
    (record { takes = done.taken; steps = done.steps; stopped = done.stopped; sound = done.front; same = done.same }))
    refl tt refl open_yet)
