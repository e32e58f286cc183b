-- What admission says of a packet.
use Rattle.std.proofs.Common.{◌≡◌, ◌≤◌, ℕ, ◌*◌, ◌/◌, ◌%◌, Bool, true, false, not, List, length, Option, Some, None, refl, arith, subst}
use Rattle.tb_work.proofs.Words.{◌==◌, nat_lt, Result, Ok, Err, IsOk, IsSome, unwrap_or, if◌then◌else◌, ⊤, admission_of_size, count_of_size}
use Rattle.std.proofs.lemmas.Nat.{div-add-mod'}
use Rattle.std.proofs.lemmas.Bool.{eqb-true}
use Rattle.std.proofs.lemmas.Bool.Decides.{nat_tests}
use Rattle.tb_work.specs.declared.refusal.Refusal.{Refusal}
use Rattle.tb_work.specs.declared.refusal.Refusal.TheVariants.{InvalidOperation, InvalidDataSize, TooMuchData, NoMemory, Shutdown, Stopped}

-- data is whole events of a known size, and they are counted and at most the limit
pub record AreWhole (limit : ℕ) (bytes : List ℕ) (size : Option ℕ) : Type 0 where
  pub known : IsSome size
  pub whole : count_of_size bytes size * unwrap_or size 0 ≡ length bytes
  pub counted : admission_of_size limit bytes size ≡ Ok (count_of_size bytes size)
  pub few : count_of_size bytes size ≤ limit

-- an admission never says why an admitted packet is refused
abbrev pub IsOfAdmission : Refusal → Type 0
IsOfAdmission NoMemory = ⊥
IsOfAdmission Shutdown = ⊥
IsOfAdmission Stopped = ⊥
IsOfAdmission other = ⊤

-- what an admission says
data Says (limit : ℕ) (bytes : List ℕ) (size : Option ℕ) : Result ℕ Refusal → Type 0 where
  Admitted : AreWhole limit bytes size → Says limit bytes size (Ok (count_of_size bytes size))
  Refuses : (refusal : Refusal) → IsOfAdmission refusal → Says limit bytes size (Err refusal)

says : (limit : ℕ) (bytes : List ℕ) (size : Option ℕ) → Says limit bytes size (admission_of_size limit bytes size)
says limit bytes None = Refuses InvalidOperation tt
says limit bytes (Some size) = by (length bytes % size == 0) (nat_lt limit (length bytes / size)) refl refl
  where
    by : (whole much : Bool) → (length bytes % size == 0) ≡ whole → nat_lt limit (length bytes / size) ≡ much
        → Says limit bytes (Some size) (if not whole then Err InvalidDataSize else if much then Err TooMuchData
        else Ok (length bytes / size))
    by false much whole_is much_is = Refuses InvalidDataSize tt
    by true true whole_is much_is = Refuses TooMuchData tt
    by true false whole_is much_is =
        Admitted (record {
          known = refl;
          whole = omega (arith, eqb-true (length bytes % size) 0 whole_is, div-add-mod' (length bytes) size);
          counted = rw (whole_is, much_is) refl;
          few = grind (arith, nat_tests, much_is);
        })

pub admitted_are_whole : (limit : ℕ) (bytes : List ℕ) (size : Option ℕ) → IsOk (admission_of_size limit bytes size)
    → AreWhole limit bytes size
admitted_are_whole limit bytes size ok = by (admission_of_size limit bytes size) (says limit bytes size) ok
  where
    by : (result : Result ℕ Refusal) → Says limit bytes size result → IsOk result → AreWhole limit bytes size
    by result (Admitted whole) ok = whole
    by result (Refuses refusal of_it) ok = cc

pub of_admission : (limit : ℕ) (bytes : List ℕ) (size : Option ℕ) (refusal : Refusal)
    → admission_of_size limit bytes size ≡ Err refusal → IsOfAdmission refusal
of_admission limit bytes size refusal is = by (admission_of_size limit bytes size) (says limit bytes size) is
  where
    by : (result : Result ℕ Refusal) → Says limit bytes size result → result ≡ Err refusal → IsOfAdmission refusal
    by result (Admitted whole) is = cc
    by result (Refuses due of_it) is = let same : due ≡ refusal = cc in subst IsOfAdmission same of_it
