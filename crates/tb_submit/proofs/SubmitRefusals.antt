-- Why a packet isn't queued.
use Rattle.std.proofs.Common.{◌≡◌, ℕ, true≢false, Option, Some, None, Result, Ok, Err, subst, sym, refl, ap, ◌∙◌}
use Rattle.tb_submit.proofs.Words.{ne_eqb, ◌==◌, IsOk, if◌then◌else◌, admission_of, Refusal, SubmitterState, IsRefusal, in_flight, or_else, refusal_in, submit_refusal, first_refusal_in}
use Rattle.tb_work.specs.declared.packet.Packet.{Packet}
use Rattle.tb_work.specs.declared.refusal.Refusal.TheVariants.{InFlight}

pub is_due : (due : Option Refusal) (refusal : Refusal) (Other : Refusal → Type 0) → due ≡ Some refusal
    → IsRefusal due Other refusal
is_due due refusal Other is = subst (λ d. IsRefusal d Other refusal) (sym is) refl

pub is_other : (due : Option Refusal) (refusal : Refusal) (Other : Refusal → Type 0) → due ≡ None → Other refusal
    → IsRefusal due Other refusal
is_other due refusal Other none other = subst (λ d. IsRefusal d Other refusal) (sym none) other

none_of_ok : (admission : Result ℕ Refusal) → IsOk admission → refusal_in admission ≡ None
none_of_ok (Ok count) ok = refl
none_of_ok (Err refusal) ok = absurd (true≢false (sym ok))

module _ {before now : SubmitterState} (same : before ≡ now) {first : Option Refusal}
    (first_is : first ≡ first_refusal_in before.read) (packet : Packet) where
  -- a reply that was read implies it
  pub refusal_is_due : {refusal : Refusal} → first ≡ Some refusal → submit_refusal now packet ≡ Some refusal
  refusal_is_due {refusal} some =
      subst (λ s. submit_refusal s packet ≡ Some refusal) same
      (ap (λ f. or_else f (or_else (refusal_in (admission_of before.origin.seat.limit packet))
      (if in_flight before == before.credit then Some InFlight else None))) (sym first_is ∙ some))

  -- no reply implies one, the packet is admitted, and there is credit
  pub none_is_due : {limit flying : ℕ} → first ≡ None → IsOk (admission_of limit packet)
      → limit ≡ now.origin.seat.limit → flying ≡ in_flight now → (flying ≡ before.credit → ⊥)
      → submit_refusal now packet ≡ None
  none_is_due untold admitted limit_is flying_is free =
      let after = λ (f : Option Refusal). or_else f (if in_flight now == now.credit then Some InFlight else None) in
      ap (λ f. or_else f (after (refusal_in (admission_of now.origin.seat.limit packet))))
      (sym (ap (λ (s : SubmitterState). first_refusal_in s.read) same) ∙ sym first_is ∙ untold)
      ∙ ap after (none_of_ok _ (subst (λ n. IsOk (admission_of n packet)) limit_is admitted))
      ∙ ap (λ busy. if busy then Some InFlight else None) (ne_eqb (in_flight now) now.credit
      (λ busy. free (flying_is ∙ busy ∙ sym (ap (λ (s : SubmitterState). s.credit) same))))
