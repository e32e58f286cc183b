-- The heap of expiries, and the pairs beside it.
use Rattle.std.specs.Prelude.{◌≡◌, ◌≤◌, ◌<◌, ◌^◌, ◌+◌, ◌++◌, ◌∷◌, [], ◌&&◌, nat_le, ℕ, Bool, true, false, List, Option, Some, None, slice_get, if◌then◌else◌}
use Rattle.std.specs.BinaryHeap.{IsHeap, heap_items, heap_len, heap_capacity}
use Rattle.std.specs.Ordering.{nat_cmp, ordering_then}
use Rattle.std.specs.declared.cmp.Ordering.{Ordering}
use Rattle.std.specs.declared.collections.BinaryHeap.{BinaryHeap}
use Rattle.std.specs.declared.cmp.Reverse.{Reverse}
use Rattle.tb_layout.specs.declared.transfer.Transfer.{Transfer}
use Rattle.tb_layout.specs.claim.Transfer.{is_pending}
use Rattle.tb_tables.specs.claim.Status.{expires_at}
use Rattle.tb_tables.specs.clauses.Contents.{is_timed}
use Rattle.tb_tables.specs.clauses.Expiries.{ExpiriesState, is_in_expiries, same_pair}
use Rattle.tb_tables.specs.declared.row.Row.{Row}
use Rattle.tb_tables.specs.inside.Changing.{is_open_status}

abbrev pub Expiry : Type 0
Expiry = Reverse (ℕ × ℕ)

-- the earlier of two is the greater
abbrev pub by_moment : Expiry → Expiry → Ordering
by_moment a b = ordering_then (nat_cmp b.0.0 a.0.0) (nat_cmp b.0.1 a.0.1)

abbrev pub IsOrdered : {A : Type 0} → BinaryHeap Expiry A → Type 0
IsOrdered heap = IsHeap by_moment (heap_items heap)

-- a heap is in order, and has capacity for this number of pairs more
pub record IsReady {A : Type 0} (heap : BinaryHeap Expiry A) (more : ℕ) : Type 0 where
  pub ordered : IsOrdered heap
  pub room : heap_len heap + more ≤ heap_capacity heap

abbrev pub pair_of : ℕ → ℕ → Expiry
pair_of moment index = record { 0 = (moment, index) }

abbrev pub with_fresh : ExpiriesState → ℕ → ℕ → ExpiriesState
with_fresh expiries moment index = record expiries { fresh = expiries.fresh ++ pair_of moment index ∷ [] }

-- with the pair of a transfer that is at an index, if it has one
abbrev pub with_its_pair : ExpiriesState → Transfer → ℕ → ExpiriesState
with_its_pair expiries transfer index =
    if is_timed transfer then with_fresh expiries (expires_at transfer) index else expiries

-- whether the transfer at an index reserves its amount
abbrev pub is_open_entry : Option (ℕ × Row) → Bool
is_open_entry None = false
is_open_entry (Some entry) = is_open_status entry.1.status

abbrev pub is_open_at : List (ℕ × Row) → ℕ → Bool
is_open_at entries index = is_open_entry (slice_get entries index)

-- whether that of the first pair does, if there is one
abbrev pub is_first_open : List (ℕ × Row) → List Expiry → Bool
is_first_open entries [] = true
is_first_open entries (pair ∷ pairs) = is_open_at entries pair.0.1

-- whether it does though its timeout is over at a clock
abbrev pub is_due_entry : ℕ → Option (ℕ × Row) → Bool
is_due_entry clock None = false
is_due_entry clock (Some entry) =
    is_open_status entry.1.status && is_timed entry.1.transfer && nat_le (expires_at entry.1.transfer) clock

abbrev pub is_due_in : List (ℕ × Row) → ℕ → ℕ → Bool
is_due_in entries index clock = is_due_entry clock (slice_get entries index)

-- the moment at which a pending transfer expires can be written down
abbrev pub ExpiriesFit : List (ℕ × Row) → Type 0
ExpiriesFit entries = (index : ℕ) (entry : ℕ × Row) → slice_get entries index ≡ Some entry
    → is_pending entry.1.transfer ≡ true → expires_at entry.1.transfer < 2 ^ 64

-- no other pair has gone
abbrev pub LosesOnly : ℕ → ℕ → ExpiriesState → ExpiriesState → Type 0
LosesOnly moment index old new =
    (m p : ℕ) → same_pair moment index m p ≡ false → is_in_expiries old m p ≡ true → is_in_expiries new m p ≡ true
