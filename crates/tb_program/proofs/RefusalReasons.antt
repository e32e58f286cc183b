-- Why packets are refused.
use Rattle.std.proofs.Common.{◌≡◌, ◌∙◌, ◌⊎◌, inl, inr, ⊎_elim, ℕ, List, [], ◌∷◌, ◌++◌, Option, Some, None, refl, sym, ap, subst}
use Rattle.tb_program.proofs.Words.{Result, Ok, Err, IsOk, IsRefusal, TakesMemory, or_else, refusal_in, refusal_of, first_refusal_in, ReplyValue, Packet, Refusal, IsFinalRefusal, final_refusal, IsRefusedFor}
use Rattle.tb_work.proofs.Admissions.{IsOfAdmission, of_admission}
use Rattle.tb_work.specs.claim.Admission.{admission_of, event_size}
use Rattle.tb_work.specs.declared.outcome.Outcome.{Outcome}
use Rattle.tb_work.specs.declared.outcome.Outcome.TheVariants as outcome
use Rattle.tb_work.specs.declared.refusal.Refusal.TheVariants as refusals

-- ---- what replies tell

first_tells : (first : Option Refusal) (rest : Option Refusal) (refusal : Refusal)
    → ((first ≡ Some refusal) → (refusal ≡ refusals.Shutdown) ⊎ (refusal ≡ refusals.Stopped))
    → ((rest ≡ Some refusal) → (refusal ≡ refusals.Shutdown) ⊎ (refusal ≡ refusals.Stopped))
    → or_else first rest ≡ Some refusal → (refusal ≡ refusals.Shutdown) ⊎ (refusal ≡ refusals.Stopped)
first_tells None rest refusal one others is = others is
first_tells (Some first) rest refusal one others is = one is

one_tells : (o : Outcome) (refusal : Refusal) → refusal_of o ≡ Some refusal
    → (refusal ≡ refusals.Shutdown) ⊎ (refusal ≡ refusals.Stopped)
one_tells (outcome.Committed place answer) refusal is = cc
one_tells outcome.Shutdown refusal is = inl cc
one_tells outcome.Stopped refusal is = inr cc

tells : (replies : List ReplyValue) (refusal : Refusal) → first_refusal_in replies ≡ Some refusal
    → (refusal ≡ refusals.Shutdown) ⊎ (refusal ≡ refusals.Stopped)
tells [] refusal is = cc
tells (reply ∷ replies) refusal is =
    first_tells (refusal_of reply.outcome) (first_refusal_in replies) refusal (one_tells reply.outcome refusal)
    (tells replies refusal) is

still_first : (first rest more : Option Refusal) (refusal : Refusal)
    → (rest ≡ Some refusal → more ≡ Some refusal) → or_else first rest ≡ Some refusal → or_else first more ≡ Some refusal
still_first None rest more refusal longer is = longer is
still_first (Some first) rest more refusal longer is = is

results_longer : (read more : List ReplyValue) (refusal : Refusal) → first_refusal_in read ≡ Some refusal
    → first_refusal_in (read ++ more) ≡ Some refusal
results_longer [] more refusal is = cc
results_longer (reply ∷ read) more refusal is =
    still_first (refusal_of reply.outcome) (first_refusal_in read) (first_refusal_in (read ++ more)) refusal
    (results_longer read more refusal) is

-- ---- what admission says

not_admitted : (limit : ℕ) (read : List ReplyValue) (packet : Packet) (refusal : Refusal) → IsOfAdmission refusal
    → admission_of limit packet ≡ Err refusal → IsRefusedFor limit read packet refusal
not_admitted limit read packet refusals.NoMemory of_it is = absurd of_it
not_admitted limit read packet refusals.Shutdown of_it is = absurd of_it
not_admitted limit read packet refusals.Stopped of_it is = absurd of_it
not_admitted limit read packet other of_it is = is

-- ---- both

pub rightly_refused : (limit : ℕ) (read : List ReplyValue) (packet : Packet) (refusal : Refusal)
    → IsFinalRefusal limit read packet refusal → IsRefusedFor limit read packet refusal
rightly_refused limit read packet refusal is = by (first_refusal_in read) (admission_of limit packet) refl refl is
  where
    results : (due : Refusal) → first_refusal_in read ≡ Some due → IsRefusedFor limit read packet due
    results due results_are = ⊎_elim
        (λ (same : due ≡ refusals.Shutdown). subst (IsRefusedFor limit read packet) (sym same)
        (results_are ∙ ap Some same))
        (λ (same : due ≡ refusals.Stopped). subst (IsRefusedFor limit read packet) (sym same) (results_are ∙ ap Some same))
        (tells read due results_are)

    by : (first : Option Refusal) (admission : Result ℕ Refusal) → first_refusal_in read ≡ first
        → admission_of limit packet ≡ admission
        → IsRefusal (or_else first (refusal_in admission)) (λ other. (other ≡ refusals.NoMemory) × TakesMemory packet)
        refusal → IsRefusedFor limit read packet refusal
    by (Some due) admission results_are admission_is is =
        subst (IsRefusedFor limit read packet) (sym is) (results due results_are)
    by None (Err due) results_are admission_is is =
        subst (IsRefusedFor limit read packet) (sym is) (not_admitted limit read packet due
        (of_admission limit packet.bytes (event_size packet.operation) due admission_is) admission_is)
    by None (Ok count) results_are admission_is is =
        subst (IsRefusedFor limit read packet) (sym is.0) (subst IsOk (sym admission_is) refl, is.1)

pub admitted : (limit : ℕ) (read : List ReplyValue) (packet : Packet) → final_refusal limit read packet ≡ None
    → IsOk (admission_of limit packet)
admitted limit read packet none = by (first_refusal_in read) (admission_of limit packet) none
  where
    by : (first : Option Refusal) (admission : Result ℕ Refusal) → or_else first (refusal_in admission) ≡ None
        → IsOk admission
    by (Some due) admission none = cc
    by None (Err due) none = cc
    by None (Ok count) none = refl

pub refused_longer : (limit : ℕ) (read more : List ReplyValue) (packet : Packet) (refusal : Refusal)
    → IsRefusedFor limit read packet refusal → IsRefusedFor limit (read ++ more) packet refusal
refused_longer limit read more packet refusals.Shutdown is = results_longer read more refusals.Shutdown is
refused_longer limit read more packet refusals.Stopped is = results_longer read more refusals.Stopped is
refused_longer limit read more packet other is = is
