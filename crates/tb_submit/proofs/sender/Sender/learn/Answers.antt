use Rattle.std.proofs.Common.{rules, List, ap, ◌∙◌, sym, subst}
use Rattle.std.specs.Arc.{arc_value}
use Rattle.crossbeam_queue.proofs.Lists.{set_else}
use Rattle.crossbeam_queue.specs.Passes.{IsPassOf}
use Rattle.tb_submit.proofs.Words.{SenderState, view_of, TellsOwn, IsUnended, Ticket, View}
use Rattle.tb_submit.proofs.RuleSteps.{learned, own_known}
use Rattle.tb_submit.proofs.Learning.{still_open}
use Rattle.tb_submit.proofs.sender.Sender.learn.Goals as goal

pub absorb-requires-clause-rule : goal.absorb-requires-clause-rule
absorb-requires-clause-rule c = λ items views h at two was. learned h at (sym (set_else views _ _ _ two) ∙ was) two
    (ap (λ (v : View). v.entries) c.seen.invariant.1)

pub learn_as-requires-clause-rule : goal.learn_as-requires-clause-rule
learn_as-requires-clause-rule c = λ items views h at. own_known h _ at

pub invariant_of-self : goal.invariant_of-self
invariant_of-self c =
    let old = view_of c.self.inside.pass in
    let pass : IsPassOf (arc_value c.self.inside.queue) c.learn_as.new.pass = search rules in
    let now = still_open c.self.inside.number old (view_of c.seen.inside.pass)
    c.self.invariant.1 c.self.invariant.2
    (subst (λ (s : SenderState). IsUnended s.queued) (sym c.self.view_is) c.requires.unended)
    (c.learn_as.ensures.queue.1 ∙ c.absorb.ensures.rule)
    (subst (λ (v : View). (items : List Ticket) × TellsOwn v items) (sym c.learn_as.ensures.queue.1)
    c.learn_as.ensures.rule) in
    (pass, now.0, now.1, now.2)
