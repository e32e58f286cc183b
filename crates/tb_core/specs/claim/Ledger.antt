-- What a ledger makes of one parcel.
use Rattle.std.specs.Prelude.{◌≡◌, ◌≤◌, ℕ, ◌+◌, ◌*◌, Bool, true, false, ◌||◌, fold, nat_lt, List, [], ◌∷◌, ◌++◌, length, map, take, drop, unwrap_or, IsSome, if◌then◌else◌, not}
use Rattle.std.specs.List.{sum_by, AllByRecursion}
use Rattle.tb_layout.specs.claim.Events.{events_of, Input, Packet, Pulse}
use Rattle.tb_layout.specs.claim.Bounds.{batch_max, places_max}
use Rattle.tb_machine.specs.claim.Replay.{after_input, opening as no_inputs}
use Rattle.tb_work.specs.claim.Admission.{event_size}
use Rattle.tb_work.specs.claim.Packet.{Numbered, input_of}
use Rattle.tb_work.specs.claim.Answer.{reply_with}
use Rattle.tb_work.specs.declared.stub.Stub.{Stub}
use Rattle.tb_work.specs.declared.outcome.Outcome.TheVariants as outcome
use Rattle.tb_core.specs.declared.parcel.Parcel.{Parcel}
use Rattle.tb_core.specs.declared.parcel.Parcel.TheVariants as parcel
use Rattle.tb_core.specs.declared.journal.Entry.{Entry}
use Rattle.tb_core.specs.declared.journal.Entry.TheVariants as entry
use Rattle.tb_core.specs.declared.outcomes.Outcomes.{Outcomes}
use Rattle.tb_core.specs.declared.outcomes.Outcomes.TheVariants.{Cut, One, Nothing, Last}
use Rattle.tb_core.specs.claim.Journal.{LedgerState, inputs}
use Rattle.tb_core.specs.claim.Decision.{cause_outcome, replies_from, Admitted}

-- ---- the journal

-- a ledger with an empty journal
abbrev pub new_ledger : ℕ → LedgerState
new_ledger clock = record { opening = clock; groups = []; state = no_inputs clock; stopped = false }

-- the bytes of one event of an operation
abbrev pub size_of : ℕ → ℕ
size_of operation = unwrap_or (event_size operation) 0

-- the packets of a batch: for each stub one, with that stub's count of the body's events
abbrev pub batch_packets : ℕ → List ℕ → List Stub → List Input
batch_packets operation body [] = []
batch_packets operation body (stub ∷ stubs) =
    let size = stub.count * size_of operation in
    Packet stub.submitter stub.number (events_of operation (take size body))
    ∷ batch_packets operation (drop size body) stubs

abbrev pub group_of : Entry → List Input
group_of (entry.Batch operation body stubs) = batch_packets operation body.items stubs.items
group_of (entry.Pulse moment) = Pulse moment ∷ []

-- how many events the packets of these stubs have together
abbrev pub count_of_stubs : List Stub → ℕ
count_of_stubs stubs = sum_by (λ (stub : Stub). stub.count) stubs

-- a batch as the journal keeps it: its operation is one of the three, and its body holds the events of its packets, at
-- most 8190, and no byte more
pub record IsBatchEntry (operation : ℕ) (body : List ℕ) (stubs : List Stub) : Type 0 where
  pub known : IsSome (event_size operation)
  pub whole : length body ≡ count_of_stubs stubs * size_of operation
  pub few : count_of_stubs stubs ≤ batch_max

abbrev pub IsEntry : Entry → Type 0
IsEntry (entry.Batch operation body stubs) = IsBatchEntry operation body.items stubs.items
IsEntry (entry.Pulse moment) = Unit {0}

abbrev pub AreEntries : List Entry → Type 0
AreEntries entries = AllByRecursion IsEntry entries

-- ---- one parcel

-- a ledger, and the outcomes of a parcel
pub record Applied : Type 0 where
  pub ledger : LedgerState
  pub outcomes : Outcomes

abbrev pub apply_result : LedgerState → Outcomes → Applied
apply_result ledger outcomes = record { ledger = ledger; outcomes = outcomes }

abbrev pub with_stop : LedgerState → LedgerState
with_stop ledger = record ledger { stopped = true }

abbrev pub with_entry : LedgerState → List Input → LedgerState
with_entry ledger group =
    record ledger { groups = ledger.groups ++ group ∷ []; state = fold after_input ledger.state group }

-- whether this number of packets or pulses isn't committed: the ledger had stopped, an allocation fails, or there are
-- no places left
abbrev pub must_stop : Bool → LedgerState → ℕ → Bool
must_stop refused ledger count = ledger.stopped || (refused || nat_lt places_max (length (inputs ledger) + count))

-- a batch committed as one entry: each packet is answered by its place in the journal
abbrev pub step_of_batch : LedgerState → List Numbered → Applied
step_of_batch ledger jobs =
    let next = with_entry ledger (map input_of jobs) in
    apply_result next (Cut (replies_from ledger.opening (inputs next) (length (inputs ledger)) (map Admitted jobs)))

-- one parcel applied; `refused` says whether the allocation that it needs fails
abbrev pub apply_step : Bool → LedgerState → Parcel → Applied
apply_step refused ledger (parcel.Batch jobs) =
    if must_stop refused ledger (length jobs) then apply_result (with_stop ledger)
    (Cut (map (reply_with outcome.Stopped) jobs))
    else step_of_batch ledger jobs
apply_step refused ledger (parcel.Pulse moment) =
    if must_stop refused ledger 1 then apply_result (with_stop ledger) Nothing
    else apply_result (with_entry ledger (Pulse moment ∷ [])) Nothing
apply_step refused ledger (parcel.Return job cause) = apply_result ledger (One (reply_with (cause_outcome cause) job))
apply_step refused ledger parcel.Last = apply_result ledger Last

-- whether a parcel takes memory: what must be stopped, however much there is, takes none
abbrev pub takes_memory : LedgerState → Parcel → Bool
takes_memory ledger (parcel.Batch jobs) = not (must_stop false ledger (length jobs))
takes_memory ledger (parcel.Pulse moment) = not (must_stop false ledger 1)
takes_memory ledger (parcel.Return job cause) = false
takes_memory ledger parcel.Last = false
