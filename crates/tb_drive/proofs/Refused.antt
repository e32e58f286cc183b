-- From a submission's refusal to a packet's final one.
use Rattle.std.proofs.Common.{◌≡◌, ◌==◌, ◌⊎◌, inl, inr, refl, Bool, true, false, Option, Some, None}
use Rattle.tb_drive.proofs.Words.{if◌then◌else◌, SubmitterState, Packet, Full, InFlight, NoMemory}
use Rattle.tb_submit.specs.clauses.Refusals.{IsRefusal, IsSubmitRefusal, TakesMemory, in_flight, or_else, refusal_in, submit_refusal, first_refusal_in}
use Rattle.tb_work.specs.claim.Admission.{admission_of}
use Rattle.tb_work.specs.declared.refusal.Refusal.{Refusal}
use Rattle.tb_drive.specs.clauses.Refusing.{IsFinalRefusal, final_refusal}

none_of : (response own last : Option Refusal) → or_else response (or_else own last) ≡ None → or_else response own ≡ None
none_of None None last none = refl
none_of None (Some own) last none = none
none_of (Some response) own last none = none

pub none_final : (submitter : SubmitterState) (packet : Packet) → submit_refusal submitter packet ≡ None
    → final_refusal submitter.origin.seat.limit submitter.read packet ≡ None
none_final submitter packet =
    none_of (first_refusal_in submitter.read) (refusal_in (admission_of submitter.origin.seat.limit packet)) _

final_of : (response own : Option Refusal) (used : Bool) (Takes : Type 0) (refusal : Refusal)
    → IsRefusal (or_else response (or_else own (if used then Some InFlight else None)))
    (λ other. ((other ≡ NoMemory) × Takes) ⊎ (other ≡ Full)) refusal
    → (refusal ≡ InFlight → ⊥) → (refusal ≡ Full → ⊥)
    → IsRefusal (or_else response own) (λ other. (other ≡ NoMemory) × Takes) refusal
final_of (Some response) own used Takes refusal is flies fills = is
final_of None (Some own) used Takes refusal is flies fills = is
final_of None None true Takes refusal is flies fills = absurd (flies is)
final_of None None false Takes refusal (inl memory) flies fills = memory
final_of None None false Takes refusal (inr full) flies fills = absurd (fills full)

pub final : (submitter : SubmitterState) (packet : Packet) (refusal : Refusal) → IsSubmitRefusal submitter packet refusal
    → (refusal ≡ InFlight → ⊥) → (refusal ≡ Full → ⊥)
    → IsFinalRefusal submitter.origin.seat.limit submitter.read packet refusal
final submitter packet =
    final_of (first_refusal_in submitter.read) (refusal_in (admission_of submitter.origin.seat.limit packet))
    (in_flight submitter == submitter.credit) (TakesMemory packet)
