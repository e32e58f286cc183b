-- Failures with capacity for more.
use Rattle.std.specs.Prelude.{◌≤◌, ℕ, List, take, vec_capacity}
use Rattle.tb_layout.specs.declared.failure.Failure.{Failure}
use Rattle.tb_layout.specs.declared.failure_room.Slots.{Slots}
use Rattle.tb_layout.specs.declared.failure_room.Slots.TheVariants.{Inline, Allocated}

-- what a contract sees of it: the failures, and how many there may be without an allocation
pub record FailureRoomState : Type 0 where
  pub items : List Failure
  pub capacity : ℕ

abbrev pub room_of : Slots → FailureRoomState
room_of (Inline few) = record { items = take few.count few.failures; capacity = 2 }
room_of (Allocated failures) = record { items = failures.items; capacity = vec_capacity failures }

abbrev pub IsSlots : Slots → Type 0
IsSlots (Inline few) = few.count ≤ 2
IsSlots (Allocated failures) = Unit {0}
