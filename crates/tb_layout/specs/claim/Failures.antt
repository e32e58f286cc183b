-- Failures in rising index, and those of a range of events.
use Rattle.std.specs.Prelude.{◌<◌, ◌≤◌, ℕ, ◌+◌, ◌-◌, Bool, ◌&&◌, nat_le, nat_lt, List, [], ◌∷◌, map, filter}
use Rattle.tb_layout.specs.declared.failure.Failure.{Failure}

-- their indices rise, from `low` on and below `high`
abbrev pub RiseWithin : ℕ → ℕ → List Failure → Type 0
RiseWithin low high [] = Unit {0}
RiseWithin low high (failure ∷ failures) =
    (low ≤ failure.index) × (failure.index < high) × RiseWithin (failure.index + 1) high failures

-- whether a failure is that of one of `count` events from an offset on
abbrev pub is_within : ℕ → ℕ → Failure → Bool
is_within offset count failure = nat_le offset failure.index && nat_lt failure.index (offset + count)

-- its index counted from an offset
abbrev pub from_offset : ℕ → Failure → Failure
from_offset offset failure = record failure { index = failure.index - offset }

-- the failures of `count` events from an offset on, with indices from 0
abbrev pub failures_within : ℕ → ℕ → List Failure → List Failure
failures_within offset count failures = map (from_offset offset) (filter (is_within offset count) failures)
