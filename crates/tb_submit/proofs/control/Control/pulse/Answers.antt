use Rattle.std.proofs.Common.{rules, ◌∷◌, [], ◌∙◌, ap, sym, subst, arith, length, length-append}
use Rattle.tb_submit.proofs.Words.{Pulse, SenderState, ArePulses}
use Rattle.tb_submit.proofs.QueuedItems.{pulses_more}
use Rattle.tb_submit.proofs.control.Control.pulse.Goals as goal

pub invariant_of-self : goal.invariant_of-self
invariant_of-self g c =
    let before = c.self.inside.sender.queued in
    let queued = ap (λ (s : SenderState). s.queued) c.in-Ok.ensures.ok in (
      omega (arith, c.self.invariant.0, ap length queued, length-append before (Pulse c.new.result ∷ [])),
      subst ArePulses (sym queued) (pulses_more before c.new.result c.self.invariant.1),
      ap (λ (s : SenderState). s.seat.number) c.in-Ok.ensures.ok ∙ c.self.invariant.2
          ∙ sym (ap (λ (s : SenderState). s.seat.submitters) c.in-Ok.ensures.ok),
    )

pub returns-clause-ok : goal.returns-clause-ok
returns-clause-ok g c = search rules
