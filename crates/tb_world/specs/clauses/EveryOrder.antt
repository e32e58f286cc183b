-- Every order of pushes and pops.
use Rattle.std.specs.Prelude.{◌≡◌, ◌<◌, ◌≤◌, ◌+◌, ℕ, length, Bool, true, false, if◌then◌else◌, List, [], ◌∷◌, ◌++◌, None}
use Rattle.std.specs.List.{list_any}
use Rattle.tb_layout.specs.claim.Bounds.{places_max}
use Rattle.tb_work.specs.claim.Ahead.{ahead, items_in, items_from}
use Rattle.tb_work.specs.claim.Queue.{AreSubmitted, AreNumbered}
use Rattle.tb_work.specs.declared.item.Ticket.{Ticket}
use Rattle.tb_world.specs.declared.event.Event.{Event}
use Rattle.tb_world.specs.declared.event.Event.TheVariants.{Push, Pop, BatchPop}
use Rattle.tb_core.specs.claim.Due.{due}
use Rattle.tb_core.specs.claim.Front.{HaveAllEnded}
use Rattle.tb_core.specs.claim.Journal.{LedgerState, inputs, inputs_since}
use Rattle.tb_core.specs.claim.EndedRun.{Run, IsPrefix, any_stopped}
use Rattle.tb_core.specs.claim.Report.{LawfulReport}
use Rattle.tb_core.specs.claim.Run.{Commits}
use Rattle.tb_core.specs.claim.TwoRuns.{FollowsOn}
use Rattle.tb_world.specs.clauses.World.{WorldState, is_lawful, received_of, moved, after_event, run, world_over}

-- the ticket that an event pushes
abbrev pub pushed_at : WorldState → Event → List Ticket
pushed_at world (Push ticket) = if is_lawful world ticket then ticket ∷ [] else []
pushed_at world other = []

-- all tickets that events push, in order
abbrev pub history : WorldState → List Event → List Ticket
history world [] = []
history world (event ∷ events) = pushed_at world event ++ history (after_event world event) events

abbrev pub is_push : Event → Bool
is_push (Push ticket) = true
is_push other = false

-- only a push can return true
abbrev pub IsAtRest : WorldState → Type 0
IsAtRest world = (event : Event) → is_push event ≡ false → moved world event ≡ None

abbrev pub is_refused : Event → Bool
is_refused (Pop refused) = refused
is_refused (BatchPop refused) = refused
is_refused other = false

-- the ledger has a place for each packet and pulse that is ahead
abbrev pub HasPlaces : LedgerState → List Ticket → Type 0
HasPlaces start queue = length (inputs start) + length (ahead (items_in queue)) ≤ places_max

-- Whatever happened since the World's ledger was `start`: its journal goes on from that of `start`; who pushed what, what
-- was committed of it, and what each submitter received.
pub record IsLawfulSoFar (start : LedgerState) (submitters : ℕ) (queue : List Ticket) (world : WorldState) : Type 0 where
  pub opening : world.ledger.opening ≡ start.opening
  pub continues : IsPrefix start.groups world.ledger.groups
  pub submitted : AreSubmitted submitters queue
  pub numbered : (sender : ℕ) → sender ≤ submitters → AreNumbered sender 0 (items_from sender queue)
  pub committed : IsPrefix (inputs_since start world.ledger) (ahead (items_in queue))
  pub received : (submitter : ℕ) → submitter < submitters → IsPrefix (received_of world submitter)
      (due start.opening (length (inputs start)) queue (inputs world.ledger) submitter)

-- no submitter learned of a stop
abbrev pub NoneStopped : ℕ → WorldState → Type 0
NoneStopped submitters world =
    (submitter : ℕ) → submitter < submitters → any_stopped (received_of world submitter) ≡ false

-- the run of a World whose ledger was `start`: its senders queued what they pushed
abbrev pub run_of : LedgerState → ℕ → List Ticket → WorldState → Run
run_of start submitters queue world =
    record {
      submitters = submitters;
      queue = queue;
      queued = λ sender. items_from sender queue;
      before = inputs start;
      ledger = world.ledger;
      replies = received_of world;
    }

abbrev pub Reports : LedgerState → ℕ → List Ticket → WorldState → Type 0
Reports start submitters queue world = LawfulReport (run_of start submitters queue world)

-- a World at rest, after these pushes
pub record IsLawfulAtRest (start : LedgerState) (submitters : ℕ) (queue : List Ticket) (world : WorldState) : Type 0 where
  pub received : (submitter : ℕ) → submitter < submitters
      → received_of world submitter ≡ due start.opening (length (inputs start)) queue (inputs world.ledger) submitter
  pub reports : HaveAllEnded submitters queue → Reports start submitters queue world

-- A World that began over `start`, as a run may, after these events, whatever they are. Some of it holds if no allocation
-- failed and the ledger has places, or at rest.
pub record HasRun (start : LedgerState) (limit submitters : ℕ) (events : List Event) (world : WorldState) : Type 0 where
  pub began : Commits start [] start []
  pub is : world ≡ run (world_over start limit submitters) events
  pub so_far : IsLawfulSoFar start submitters (history (world_over start limit submitters) events) world
  pub no_stop_seen : list_any is_refused events ≡ false
      → HasPlaces start (history (world_over start limit submitters) events) → NoneStopped submitters world
  pub at_rest : IsAtRest world → IsLawfulAtRest start submitters (history (world_over start limit submitters) events) world
  pub whole : list_any is_refused events ≡ false
      → HasPlaces start (history (world_over start limit submitters) events) → IsAtRest world
      → inputs_since start world.ledger ≡ ahead (items_in (history (world_over start limit submitters) events))

-- ---- laws

-- a World that began over a ledger goes on with any events
abbrev pub RunsGoOn : Type 0
RunsGoOn =
    (start : LedgerState) (limit submitters : ℕ) (before events : List Event) (world : WorldState)
    → HasRun start limit submitters before world →
    HasRun start limit submitters (before ++ events) (run world events)

-- A World that began over the ledger of another follows it. If both have a lawful report, they are as one by tb_core's law
-- `two_runs_are_one`.
abbrev pub WorldsFollow : Type 0
WorldsFollow =
    (start : LedgerState) (submitters : ℕ) (queue : List Ticket) (first second : WorldState) (limit others : ℕ)
    (events : List Event) → HasRun first.ledger limit others events second →
    FollowsOn (run_of start submitters queue first)
    (run_of first.ledger others (history (world_over first.ledger limit others) events) second)
