use Rattle.std.proofs.Common.{◌≡◌, ◌<◌, ◌-◌, ◌+◌, ap, arith, inr, length, refl, subst, sym, ◌∙◌, rules}
use Rattle.tb_submit.proofs.Words.{admission_of, Numbered, taken, IsOk, SenderState, SubmitterState, IsSubmitter, in_flight}
use Rattle.tb_submit.proofs.SubmitterCounts.{counts_packet}
use Rattle.tb_submit.proofs.SubmitRefusals.{is_due, is_other, none_is_due, refusal_is_due}
use Rattle.tb_submit.proofs.submitter.Submitter.submit.Goals as goal

pub invariant_of-self : goal.invariant_of-self
invariant_of-self g c =
    let before = c.self.inside in
    let job = c.in_ok-job.job in
    let made : job ≡ _ = c.in_ok-job.ensures.job in
    let packet = c.in_ok-admitted.ensures.packet in
    let flying : c.in_flight.result ≡ length before.sender.queued - length (taken before.inlet) =
    c.in_flight.ensures.value ∙ ap in_flight (sym c.self.view_is) in
    let left : length before.sender.queued - length (taken before.inlet) < before.credit = omega
    (arith, flying, c.if-in_flight-self.false, c.self.invariant.credited) in
    subst (λ (s : SenderState). IsSubmitter s.seat s.queued
    (before.queued + 1) before.credit before.read before.first_refusal (taken before.inlet)) (sym c.in-Ok.ensures.ok)
    (counts_packet c.self.invariant job (ap (λ (j : Numbered). j.submitter) made ∙ c.number.ensures)
    (ap (λ (j : Numbered). j.number) made)
    (subst (λ (j : Numbered). IsOk (admission_of before.sender.seat.limit j.packet)) (sym made)
    (subst (λ p. IsOk (admission_of before.sender.seat.limit p)) (sym packet)
    (subst (λ limit. IsOk (admission_of limit c.args.packet)) c.limit.ensures c.in_ok-admitted.ensures.admitted)))
    left)

pub returns-in-Some-clause-refusal : goal.returns-in-Some-clause-refusal
returns-in-Some-clause-refusal g c =
    is_due _ c.in-Some.refusal _
    (refusal_is_due c.self.view_is c.self.invariant.first_refusal c.args.packet c.in-Some.is)

pub returns-in-Ok-clause-admitted : goal.returns-in-Ok-clause-admitted
returns-in-Ok-clause-admitted g c =
    none_is_due c.self.view_is c.self.invariant.first_refusal c.args.packet c.in_default.is
    c.in_ok-admitted.ensures.admitted (c.limit.ensures ∙ ap (λ (s : SubmitterState). s.origin.seat.limit) c.self.view_is)
    c.in_flight.ensures.value c.if-in_flight-self.false

pub returns-in-Err-Packet-clause-refusal : goal.returns-in-Err-Packet-clause-refusal
returns-in-Err-Packet-clause-refusal g c =
    is_other _ _ _ (none_is_due c.self.view_is c.self.invariant.first_refusal c.args.packet c.in_default.is
    c.in_ok-admitted.ensures.admitted (c.limit.ensures ∙ ap (λ (s : SubmitterState). s.origin.seat.limit) c.self.view_is)
    c.in_flight.ensures.value c.if-in_flight-self.false) (inr refl)

pub returns-in-Some-clause-ok : goal.returns-in-Some-clause-ok
returns-in-Some-clause-ok g c = search rules

pub returns-in_err-admitted-clause-ok : goal.returns-in_err-admitted-clause-ok
returns-in_err-admitted-clause-ok g c = search rules

pub returns-then-in_flight-self-clause-ok : goal.returns-then-in_flight-self-clause-ok
returns-then-in_flight-self-clause-ok g c = search rules

pub returns-in_err-job-clause-ok : goal.returns-in_err-job-clause-ok
returns-in_err-job-clause-ok g c = search rules

pub returns-in-Ok-clause-ok : goal.returns-in-Ok-clause-ok
returns-in-Ok-clause-ok g c = search rules

pub returns-in-Err-Packet-clause-ok : goal.returns-in-Err-Packet-clause-ok
returns-in-Err-Packet-clause-ok g c = search rules
