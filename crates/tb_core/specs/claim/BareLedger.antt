-- A bare ledger: one that keeps no journal. What it has committed is known only to clauses.
use Rattle.std.specs.Prelude.{◌≡◌, ◌≤◌, ℕ, ◌+◌, Bool, true, false, ◌||◌, not, nat_lt, List, ◌++◌, length, map, Option, Some, None, option_to_list, if◌then◌else◌}
use Rattle.std.specs.List.{flat_map}
use Rattle.tb_layout.specs.claim.Events.{Input}
use Rattle.tb_layout.specs.claim.Limits.{clock_max}
use Rattle.tb_layout.specs.claim.Bounds.{places_max}
use Rattle.tb_machine.specs.claim.Replay.{State, replay, opening as no_inputs}
use Rattle.tb_work.specs.claim.Answer.{reply_with}
use Rattle.tb_work.specs.claim.Packet.{ReplyValue}
use Rattle.tb_work.specs.declared.outcome.Outcome.TheVariants as outcome
use Rattle.tb_core.specs.declared.journal.Entry.{Entry}
use Rattle.tb_core.specs.declared.outcomes.Outcomes.{Outcomes}
use Rattle.tb_core.specs.declared.outcomes.Outcomes.TheVariants.{Cut, One, Nothing, Last}
use Rattle.tb_core.specs.declared.parcel.Parcel.{Parcel}
use Rattle.tb_core.specs.declared.parcel.Parcel.TheVariants as parcel
use Rattle.tb_core.specs.claim.Grouping.{AreJoined}
use Rattle.tb_core.specs.claim.Decision.{Decision, cause_outcome}
use Rattle.tb_core.specs.claim.Journal.{LedgerState, groups_since}
use Rattle.tb_core.specs.claim.Ledger.{group_of, IsEntry, AreEntries, apply_result, apply_step}
use Rattle.tb_core.specs.claim.Run.{Commits}

-- its opening clock, how many packets and pulses it committed, its machine's state, and whether it stopped
pub record BareLedgerState : Type 0 where
  pub opening : ℕ
  pub places : ℕ
  pub state : State
  pub stopped : Bool

-- its opening clock and its places are in range
pub record IsBareLedger (opening places : ℕ) : Type 0 where
  pub clock : opening ≤ clock_max
  pub few : places ≤ places_max

-- a bare ledger that has committed nothing
abbrev pub new_bare_ledger : ℕ → BareLedgerState
new_bare_ledger clock = record { opening = clock; places = 0; state = no_inputs clock; stopped = false }

-- the ledger with these groups in its journal
abbrev pub with_journal : BareLedgerState → List (List Input) → LedgerState
with_journal bare groups =
    record { opening = bare.opening; groups = groups; state = bare.state; stopped = bare.stopped }

-- It committed these groups: its machine is what they give from its opening clock, and its places are counted.
pub record HasCommitted (bare : BareLedgerState) (groups : List (List Input)) : Type 0 where
  pub machine : bare.state ≡ replay bare.opening (flat_map (λ group. group) groups)
  pub counted : bare.places ≡ length (flat_map (λ group. group) groups)

-- a bare ledger committed the groups of these entries, its journal, and each entry is whole
pub record IsLedger (bare : BareLedgerState) (entries : List Entry) : Type 0 where
  pub committed : HasCommitted bare (map group_of entries)
  pub whole : AreEntries entries

-- ---- one parcel

-- whether this number of packets or pulses isn't committed, however much memory there is
abbrev pub halts : BareLedgerState → ℕ → Bool
halts bare count = bare.stopped || nat_lt places_max (bare.places + count)

-- whether a parcel takes memory: what isn't committed, however much there is, takes none
abbrev pub grows : BareLedgerState → Parcel → Bool
grows bare (parcel.Batch jobs) = not (halts bare (length jobs))
grows bare (parcel.Pulse moment) = not (halts bare 1)
grows bare (parcel.Return job cause) = false
grows bare parcel.Last = false

-- whether a ledger has stopped after a parcel for which memory was there: it had before, or there are no places for it
abbrev pub stops : BareLedgerState → Parcel → Bool
stops bare (parcel.Batch jobs) = halts bare (length jobs)
stops bare (parcel.Pulse moment) = halts bare 1
stops bare (parcel.Return job cause) = bare.stopped
stops bare parcel.Last = bare.stopped

abbrev pub places_with : BareLedgerState → ℕ → ℕ
places_with bare count = if halts bare count then bare.places else bare.places + count

-- how many packets and pulses it committed by then
abbrev pub places_after : BareLedgerState → Parcel → ℕ
places_after bare (parcel.Batch jobs) = places_with bare (length jobs)
places_after bare (parcel.Pulse moment) = places_with bare 1
places_after bare (parcel.Return job cause) = bare.places
places_after bare parcel.Last = bare.places

-- an entry is whole, and there is one only if the parcel may take memory
abbrev pub IsEntryIf : Bool → Option Entry → Type 0
IsEntryIf may None = Unit {0}
IsEntryIf may (Some entry) = IsEntry entry × (may ≡ true)

-- the group that an entry adds, if there is one
abbrev pub groups_in : Option Entry → List (List Input)
groups_in entry = map group_of (option_to_list entry)

-- Whatever was committed before, a parcel was applied to that ledger, and these groups were committed of it.
abbrev pub Adds : Bool → Parcel → BareLedgerState → Outcomes → List (List Input) → BareLedgerState → Type 0
Adds refused handed old outcomes added new =
    (groups : List (List Input)) → HasCommitted old groups → HasCommitted new (groups ++ added)
    × (apply_result (with_journal new (groups ++ added)) outcomes ≡ apply_step refused (with_journal old groups) handed)

-- the same, and the entry has what was committed
abbrev pub Records : Bool → Parcel → BareLedgerState → Outcomes → Option Entry → BareLedgerState → Type 0
Records refused handed old outcomes entry new = Adds refused handed old outcomes (groups_in entry) new

-- a batch: nothing else can lack memory, since without a journal a pulse allocates nothing
abbrev pub IsBatch : Parcel → Type 0
IsBatch (parcel.Batch jobs) = Unit {0}
IsBatch other = ⊥

-- A parcel was applied, whatever was committed before. If memory ran out, it was a batch.
abbrev pub Applies : Parcel → BareLedgerState → Outcomes → BareLedgerState → Type 0
Applies handed old outcomes new =
    (refused : Bool) × (entry : Option Entry) × (refused ≡ true → IsBatch handed) × Records refused handed old outcomes entry new

-- a bare ledger after a parcel that was refused: it stopped, unless there was nothing to commit
abbrev pub after_refusal : BareLedgerState → Parcel → BareLedgerState
after_refusal bare (parcel.Batch jobs) = record bare { stopped = true }
after_refusal bare (parcel.Pulse moment) = record bare { stopped = true }
after_refusal bare other = bare

-- the outcomes of a parcel that was refused: each packet of a batch is answered Stopped
abbrev pub refusal_of : Parcel → Outcomes
refusal_of (parcel.Batch jobs) = Cut (map (reply_with outcome.Stopped) jobs)
refusal_of (parcel.Pulse moment) = Nothing
refusal_of (parcel.Return job cause) = One (reply_with (cause_outcome cause) job)
refusal_of parcel.Last = Last

-- since it was `start` a bare ledger took these decisions, in groups lawful under a limit; these are the replies
pub record HasSent (start : LedgerState) (limit : ℕ) (decisions : List Decision) (bare : BareLedgerState)
    (replies : List ReplyValue) : Type 0 where
  pub groups : List (List Input)
  pub committed : HasCommitted bare groups
  pub commits : Commits start decisions (with_journal bare groups) replies
  pub joined : AreJoined limit (groups_since start (with_journal bare groups))
