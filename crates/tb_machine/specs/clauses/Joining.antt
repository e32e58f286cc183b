-- Packets of one operation laid one after another, and each by itself.
use Rattle.std.specs.Prelude.{◌≡◌, ◌<◌, ◌≤◌, ℕ, ◌+◌, Bool, true, not, List, [], ◌∷◌, map, flat_map, fold, length}
use Rattle.std.specs.List.{list_all}
use Rattle.tb_layout.specs.declared.failure.Failure.{Failure}
use Rattle.tb_layout.specs.claim.Events.{Events, Ids, is_last_linked}
use Rattle.tb_layout.specs.claim.Failures.{RiseWithin, failures_within}
use Rattle.tb_layout.specs.claim.Limits.{clock_max}
use Rattle.tb_machine.specs.claim.Replay.{State, failures_of, accounts_found, after_packet}

-- the events of packets, laid one after another
abbrev pub events_in_turn : {Event : Type 0} → List (List Event) → List Event
events_in_turn packets = flat_map (λ packet. packet) packets

-- none of the packets is open
abbrev pub none_open : {Event : Type 0} → (Event → Bool) → List (List Event) → Bool
none_open is_linked packets = list_all (λ packet. not (is_last_linked is_linked packet)) packets

-- the failures of each of some packets that lie one after another from an offset on, with indices from 0
abbrev pub cuts : {Event : Type 0} → ℕ → List (List Event) → List Failure → List (List Failure)
cuts offset [] failures = []
cuts offset (packet ∷ packets) failures =
    failures_within offset (length packet) failures ∷ cuts (offset + length packet) packets failures

-- the failures of each packet by itself, in the state that those before it left
abbrev pub failures_each : State → List Events → List (List Failure)
failures_each state [] = []
failures_each state (packet ∷ packets) = failures_of state packet ∷ failures_each (after_packet state packet) packets

-- packets that may be committed as one: one packet, open or not, or several, none of them open
abbrev pub IsJoinable : {Event : Type 0} → (Event → Bool) → List (List Event) → Type 0
IsJoinable is_linked packets = 1 < length packets → none_open is_linked packets ≡ true

-- laid one after another they give each packet what it gives by itself, and leave the same state
pub record GiveAsEach {Event : Type 0} (packet_of : List Event → Events) (state : State)
    (packets : List (List Event)) : Type 0 where
  pub rise : RiseWithin 0 (length (events_in_turn packets)) (failures_of state (packet_of (events_in_turn packets)))
  pub failures : cuts 0 packets (failures_of state (packet_of (events_in_turn packets)))
      ≡ failures_each state (map packet_of packets)
  pub state_after : after_packet state (packet_of (events_in_turn packets))
      ≡ fold after_packet state (map packet_of packets)

-- every group gives each packet what it gives by itself, in every state that a machine can have
abbrev pub JoiningIsInvisible : {Event : Type 0} → (List Event → Events) → (Event → Bool) → Type 0
JoiningIsInvisible {Event} packet_of is_linked =
    (state : State) (packets : List (List Event)) → state.clock ≤ clock_max → IsJoinable is_linked packets
    → GiveAsEach packet_of state packets

-- a lookup is a group by itself: its accounts, whole, are its answer, and the state stays as it is
pub record GivesAsAlone (state : State) (ids : List ℕ) : Type 0 where
  pub accounts : accounts_found state.facts (events_in_turn (ids ∷ [])) ≡ accounts_found state.facts ids
  pub state_after : after_packet state (Ids (events_in_turn (ids ∷ []))) ≡ state
