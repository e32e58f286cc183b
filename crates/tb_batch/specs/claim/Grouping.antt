-- Which packets share a batch (batching in the requests reference and in tb_client, here only of neighbours).
use Rattle.std.specs.Prelude.{◌≡◌, ℕ, ◌+◌, ◌==◌, Bool, true, false, ◌&&◌, not, nat_le, List, [], ◌∷◌, ◌++◌, map}
use Rattle.std.specs.List.{list_all}
use Rattle.tb_layout.specs.claim.Events.{create_accounts, create_transfers, Events, Accounts, Transfers, Ids, Input, Packet, Pulse}
use Rattle.tb_layout.specs.claim.EventCounts.{lookup_accounts, is_open, count_of}
use Rattle.tb_work.specs.claim.Admission.{looks_up}
use Rattle.tb_work.specs.claim.Packet.{Numbered, input_of}

abbrev pub operation_of : Events → ℕ
operation_of (Accounts events) = create_accounts
operation_of (Transfers events) = create_transfers
operation_of (Ids ids) = lookup_accounts

-- neither an open packet nor a lookup
abbrev pub can_share : Events → Bool
can_share events = not (is_open events) && not (looks_up (operation_of events))

abbrev pub shares_with : Events → Input → Bool
shares_with events (Packet submitter number others) = can_share others && (operation_of others == operation_of events)
shares_with events (Pulse moment) = false

-- how many events packets have together
abbrev pub events_together : List Input → ℕ
events_together [] = 0
events_together (Packet submitter number events ∷ inputs) = count_of events + events_together inputs
events_together (Pulse moment ∷ inputs) = events_together inputs

-- whether a packet joins a group: all of one operation, none open, no lookup, and not too many events together
abbrev pub joins : ℕ → List Input → Input → Bool
joins limit group (Packet submitter number events) =
    list_all (shares_with events) group && (can_share events
    && nat_le (events_together group + count_of events) limit)
joins limit group (Pulse moment) = false

-- each joins those before it
abbrev pub join_in_turn : ℕ → List Input → List Input → Bool
join_in_turn limit group [] = true
join_in_turn limit group (input ∷ inputs) = joins limit group input && join_in_turn limit (group ++ input ∷ []) inputs

-- a group is one pulse, or packets that each join those before them
abbrev pub IsJoined : ℕ → List Input → Type 0
IsJoined limit [] = ⊥
IsJoined limit (Pulse moment ∷ inputs) = inputs ≡ []
IsJoined limit (Packet submitter number events ∷ inputs) =
    join_in_turn limit (Packet submitter number events ∷ []) inputs ≡ true

-- ---- jobs that are held

-- whether a packet joins those held; if none is held, it begins a group
abbrev pub is_taken : ℕ → List Numbered → Numbered → Bool
is_taken limit [] job = true
is_taken limit (first ∷ jobs) job = joins limit (map input_of (first ∷ jobs)) (input_of job)

-- the packets held, if there are any, are one group
abbrev pub IsGroup : ℕ → List Numbered → Type 0
IsGroup limit [] = Unit {0}
IsGroup limit (job ∷ jobs) = IsJoined limit (map input_of (job ∷ jobs))
