-- Failures in rising index.
use Rattle.std.proofs.Common.{◌≡◌, ℕ, zero, suc, ◌+◌, ◌<◌, ◌≤◌, List, [], ◌∷◌, length, get_or, map, subst, ◌-◌, arith}
use Rattle.tb_layout.specs.declared.failure.Failure.{Failure}
use Rattle.tb_layout.specs.claim.Failures.{RiseWithin, from_offset}

-- there are as many failures before one as there are indices for
pub rise_at : (low high : ℕ) (failures : List Failure) (place : ℕ) (d : Failure) → RiseWithin low high failures
    → place < length failures →
    (low + place ≤ (get_or failures place d).index) × ((get_or failures place d).index < high)
rise_at low high [] place d rise h = absurd (omega arith)
rise_at low high (failure ∷ failures) zero d rise h = (omega (arith, rise.0), rise.1)
rise_at low high (failure ∷ failures) (suc place) d rise h =
    let later = rise_at (failure.index + 1) high failures place d rise.2 (omega arith) in
    (omega (arith, rise.0, later.0), later.1)

rise_rebased : (offset low count : ℕ) (failures : List Failure)
    → RiseWithin (offset + low) (offset + count) failures → RiseWithin low count (map (from_offset offset) failures)
rise_rebased offset low count [] rise = tt
rise_rebased offset low count (failure ∷ failures) rise =
    let next : failure.index + 1 ≡ offset + (failure.index - offset + 1) = omega (arith, rise.0) in (
      omega (arith, rise.0),
      omega (arith, rise.0, rise.1),
      rise_rebased offset
          (failure.index - offset + 1) count failures (subst
          (λ (n : ℕ). RiseWithin n (offset + count) failures) next rise.2),
    )

-- counted from where they begin, they rise from 0
pub rise_from_0 : (offset count : ℕ) (failures : List Failure) → RiseWithin offset (offset + count) failures
    → RiseWithin 0 count (map (from_offset offset) failures)
rise_from_0 offset count failures rise =
    let start : offset ≡ offset + 0 = omega arith in
    rise_rebased offset 0 count failures (subst (λ (n : ℕ). RiseWithin n (offset + count) failures) start rise)
