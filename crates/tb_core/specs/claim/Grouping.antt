-- Lawful groupings of packets and pulses.
use Rattle.std.specs.Prelude.{◌≤◌, ℕ, List}
use Rattle.std.specs.List.{AllByRecursion, flat_map}
use Rattle.tb_layout.specs.claim.Events.{Input, Packet, Pulse}
use Rattle.tb_layout.specs.claim.EventCounts.{count_of}
use Rattle.tb_batch.specs.claim.Grouping.{IsJoined, IsGroup}
use Rattle.tb_core.specs.declared.parcel.Parcel.{Parcel}
use Rattle.tb_core.specs.declared.parcel.Parcel.TheVariants as parcel

abbrev pub AreJoined : ℕ → List (List Input) → Type 0
AreJoined limit groups = AllByRecursion (IsJoined limit) groups

abbrev pub IsWithin : ℕ → Input → Type 0
IsWithin limit (Packet submitter number events) = count_of events ≤ limit
IsWithin limit (Pulse moment) = Unit {0}

-- no packet has more events than the limit
abbrev pub AreWithin : ℕ → List Input → Type 0
AreWithin limit inputs = AllByRecursion (IsWithin limit) inputs

-- a lawful grouping, under a limit, of the groups laid one after the other
pub record IsGrouping (limit : ℕ) (groups : List (List Input)) : Type 0 where
  pub joined : AreJoined limit groups
  pub within : AreWithin limit (flat_map (λ group. group) groups)

-- the packets of a batch joined one another
abbrev pub IsJoinedParcel : ℕ → Parcel → Type 0
IsJoinedParcel limit (parcel.Batch jobs) = IsGroup limit jobs
IsJoinedParcel limit other = Unit {0}

abbrev pub AreJoinedParcels : ℕ → List Parcel → Type 0
AreJoinedParcels limit parcels = AllByRecursion (IsJoinedParcel limit) parcels
