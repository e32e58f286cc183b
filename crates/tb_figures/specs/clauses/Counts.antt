-- What is counted of the groups of a journal.
use Rattle.std.specs.Prelude.{◌≡◌, ◌<◌, ◌≤◌, ℕ, ◌+◌, List, [], ◌∷◌, length, map, min, slice_index, ◌-◌, ◌^◌}
use Rattle.std.specs.List.{AllByRecursion, flat_map}
use Rattle.tb_layout.specs.claim.Events.{Input, Pulse}
use Rattle.tb_layout.specs.claim.Bounds.{places_max, submitters_max}
use Rattle.tb_work.specs.claim.Packet.{input_of}
use Rattle.tb_core.specs.claim.EachSubmitter.{moments_in, packets_of}
use Rattle.tb_batch.specs.claim.Grouping.{events_together}
use Rattle.tb_core.specs.declared.parcel.Parcel.{Parcel}
use Rattle.tb_core.specs.declared.parcel.Parcel.TheVariants as parcel
use Rattle.tb_figures.specs.declared.counts.Counts.{Counts}

-- the packets and pulses of these groups, one after the other
abbrev pub inputs_of : List (List Input) → List Input
inputs_of groups = flat_map (λ group. group) groups

-- the group that a parcel adds to the journal if it is committed
abbrev pub groups_of : Parcel → List (List Input)
groups_of (parcel.Batch jobs) = map input_of jobs ∷ []
groups_of (parcel.Pulse moment) = (Pulse moment ∷ []) ∷ []
groups_of other = []

-- a count that stays at the largest number of 64 bits
abbrev pub capped : ℕ → ℕ
capped n = min n (2 ^ 64 - 1)

-- the packets or the pulse of a parcel have places after these
abbrev pub HasPlaces : List Input → Parcel → Type 0
HasPlaces before (parcel.Batch jobs) = length before + length jobs ≤ places_max
HasPlaces before (parcel.Pulse moment) = length before + 1 ≤ places_max
HasPlaces before other = Unit {0}

-- each group has a packet or a pulse
abbrev pub AreFull : List (List Input) → Type 0
AreFull groups = AllByRecursion (λ group. 0 < length group) groups

-- These are the counts of some groups. Each group is a batch, which has a packet, or a pulse. Each of their inputs is a packet or a
-- pulse. There are at most 16 submitters.
pub record AreCounts (groups : List (List Input)) (counts : Counts) : Type 0 where
  pub full : AreFull groups
  pub entries : counts.batches + counts.pulses ≡ length groups
  pub some : counts.batches ≤ counts.packets
  pub places : counts.packets + counts.pulses ≡ length (inputs_of groups)
  pub pulses : counts.pulses ≡ length (moments_in (inputs_of groups))
  pub events : counts.events ≡ capped (events_together (inputs_of groups))
  pub submitters : (k : ℕ) → k < submitters_max → slice_index counts.submitters k ≡ length (packets_of k (inputs_of groups))
