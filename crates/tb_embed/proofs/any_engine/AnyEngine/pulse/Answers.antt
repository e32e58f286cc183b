use Rattle.std.proofs.Common.{refl, sym, subst, ap, ◌∙◌, rules}
use Rattle.tb_work.specs.declared.item.Item.TheVariants as item
use Rattle.tb_embed.proofs.Words.{AnyEngineState, QueuesBy, ticket_of}
use Rattle.tb_embed.proofs.AnyRun.{TookBy, control_by}
use Rattle.tb_embed.proofs.Restored.{open_if_not_refused}
use Rattle.tb_embed.proofs.any_engine.AnyEngine.pulse.Goals as goal

pub returns-clause-ok : goal.returns-clause-ok
returns-clause-ok g c =
    let may_be = g.L.AnyLedger.is in
    let old = c.args.self.now in
    let new = c.take_control.new.self in
    let done = c.in_ok-take_control.ensures in
    let x = item.Pulse c.args.nanoseconds in
    let open_yet = ap (λ (s : AnyEngineState _). s.shut) (sym c.self.view_is)
    ∙ open_if_not_refused _ c.self.inside.senders.shut c.args.nanoseconds (sym c.refusal_of_pulse.ensures ∙ c.in_default.is) in
    subst (λ b. QueuesBy may_be old (ticket_of old.front.submitters x) (record new { shut = b })) (sym (done.same.1 ∙ open_yet))
    (control_by may_be old new x
    (subst (λ moment. TookBy may_be old new (ticket_of old.front.submitters (item.Pulse moment))) c.new.ensures
    (record { takes = done.taken; steps = done.steps; sound = done.front; same = done.same })) refl tt refl open_yet)

pub returns-in-Some-clause-admitted : goal.returns-in-Some-clause-admitted
returns-in-Some-clause-admitted g c = search rules

pub returns-in_err-take_control-clause-admitted : goal.returns-in_err-take_control-clause-admitted
returns-in_err-take_control-clause-admitted g c = search rules

pub returns-clause-admitted : goal.returns-clause-admitted
returns-clause-admitted g c = search rules
