-- An engine: what was queued in it, which replies were read, and what follows. No batch is in it.
use Rattle.std.specs.Prelude.{◌≡◌, ◌<◌, ◌≤◌, ◌==◌, ◌⊎◌, ◌^◌, ◌-◌, ℕ, Bool, false, nat_lt, nat_le, if◌then◌else◌, List, [], ◌∷◌, ◌++◌, ◌+◌, map, length, get_or, slice_get, Option, Some, None, Result, Ok, Err}
use Rattle.tb_layout.specs.claim.Bounds.{batch_max, moment_max, places_max, submitters_max}
use Rattle.tb_machine.specs.claim.Replay.{State, replay}
use Rattle.tb_work.specs.claim.Admission.{admission_of}
use Rattle.tb_work.specs.claim.Ahead.{ahead, items_in, items_from}
use Rattle.tb_work.specs.claim.Packet.{ReplyValue, input_of}
use Rattle.tb_work.specs.declared.item.Item.{Item}
use Rattle.tb_work.specs.declared.item.Item.TheVariants as item
use Rattle.tb_work.specs.declared.item.Ticket.{Ticket}
use Rattle.tb_work.specs.declared.outcome.Outcome.TheVariants.{Committed}
use Rattle.tb_work.specs.declared.packet.Packet.{Packet}
use Rattle.tb_work.specs.declared.refusal.Refusal.{Refusal}
use Rattle.tb_work.specs.declared.refusal.Refusal.TheVariants.{BadSubmitters, Full, MomentTooLarge, NoMemory, Shutdown, Stopped}
use Rattle.tb_core.specs.claim.Due.{all_due, replies_to}
use Rattle.tb_core.specs.claim.Decision.{inputs_in, Decision, AreDecisions}
use Rattle.tb_core.specs.claim.Front.{FrontState, held_by, take_step, with_group}
use Rattle.tb_layout.specs.claim.Events.{Input}
use Rattle.tb_layout.specs.declared.answer.Answer.{Answer}
use Rattle.tb_core.specs.claim.Journal.{LedgerState, inputs, groups_since, inputs_since}
use Rattle.tb_core.specs.claim.Ledger.{new_ledger}
use Rattle.tb_core.specs.claim.EndedRun.{Run, IsPrefix}
use Rattle.tb_core.specs.claim.Grouping.{AreJoined}
use Rattle.tb_core.specs.claim.Report.{LawfulReport}
use Rattle.tb_core.specs.claim.BareLedger.{BareLedgerState, HasCommitted, HasSent, halts, with_journal}
use Rattle.tb_core.specs.declared.parcel.Parcel.{Parcel}
use Rattle.tb_core.specs.declared.parcel.Parcel.TheVariants.{Batch, Pulse}
use Rattle.tb_embed.specs.clauses.Queued.{AreQueued, ended_queue, packets_in}
use Rattle.tb_embed.specs.declared.senders.Senders.{Senders}

-- the front, the bare ledger, the replies that are not read, of each submitter the number of its next packet, and whether
-- the Close was queued
pub record EngineState : Type 0 where
  pub front : FrontState
  pub ledger : BareLedgerState
  pub unread : List ReplyValue
  pub numbers : List ℕ
  pub shut : Bool

-- The limit and the number of submitters are those of the front. The front doesn't stop: a packet for which it has no memory
-- isn't queued.
pub record IsEngine (senders : Senders) (front : FrontState) : Type 0 where
  pub limited : front.limit ≡ senders.limit
  pub counted : front.submitters ≡ senders.submitters
  pub few : senders.limit ≤ batch_max
  pub among : senders.submitters ≤ submitters_max
  pub each : length senders.numbers ≡ submitters_max
  pub goes : front.stopped ≡ false

-- the state of the machine
abbrev pub state_of : EngineState → State
state_of engine = engine.ledger.state

-- nothing more is committed
abbrev pub has_stopped : EngineState → Bool
has_stopped engine = engine.ledger.stopped

-- ---- what a call adds to the run so far

-- A front took these items: it passed on decisions that `are` allows, and holds the rest.
pub record HasPassed (are : List Decision → Type 0) (items : List Item) (front : FrontState) : Type 0 where
  pub sent : List Decision
  pub passed : AreDecisions items front.closed front.stopped (sent ++ held_by front)
  pub has_sent : are sent

-- a front took these items and a ledger, since it was `start`, all that the front passed on; these are the replies
abbrev pub HasTaken : LedgerState → List Item → List ReplyValue → FrontState → BareLedgerState → Type 0
HasTaken start items replies front ledger =
    HasPassed (λ sent. HasSent start front.limit sent ledger replies) items front

-- with those committed before there are at most 2^63 packets and pulses ahead of the Close
abbrev pub HasPlaces : LedgerState → List Item → Type 0
HasPlaces start items = length (inputs start) + length (ahead items) ≤ places_max

-- Since its ledger was `start` this is what was queued in the engine, and these replies were read. The front hasn't stopped, and the
-- ledger hasn't while there are places.
pub record Serves (start : LedgerState) (queue : List Ticket) (read : List ReplyValue) (engine : EngineState) : Type 0 where
  pub taken : HasTaken start (items_in queue) (read ++ engine.unread) engine.front engine.ledger
  pub queued : AreQueued engine.front.submitters queue engine.numbers engine.shut
  pub unstopped : engine.front.stopped ≡ false
  pub goes : HasPlaces start (items_in queue) → has_stopped engine ≡ false

-- an engine that was opened with these, in which nothing was queued
pub record IsOpened (clock limit submitters : ℕ) (engine : EngineState) : Type 0 where
  pub serves : Serves (new_ledger clock) [] [] engine
  pub limited : engine.front.limit ≡ limit
  pub counted : engine.front.submitters ≡ submitters

-- the same over a ledger that an earlier engine left, whatever groups that one committed
pub record IsOpenedOver (ledger : BareLedgerState) (limit submitters : ℕ) (engine : EngineState) : Type 0 where
  pub serves : (groups : List (List Input)) → HasCommitted ledger groups → Serves (with_journal ledger groups) [] [] engine
  pub own : engine.ledger ≡ ledger
  pub limited : engine.front.limit ≡ limit
  pub counted : engine.front.submitters ≡ submitters

-- nothing is held, and all replies were read
abbrev pub HoldsNothing : EngineState → Type 0
HoldsNothing engine = (engine.front.held ≡ []) × (engine.unread ≡ [])

-- a front took a ticket, for which there was memory
abbrev pub Steps : FrontState → Ticket → FrontState → Type 0
Steps old ticket new = new ≡ (take_step false old ticket.sender ticket.item).front

-- how many packets and pulses a front passes on
abbrev pub places_in : List Parcel → ℕ
places_in [] = 0
places_in (Batch jobs ∷ parcels) = length jobs + places_in parcels
places_in (Pulse moment ∷ parcels) = 1 + places_in parcels
places_in (other ∷ parcels) = places_in parcels

-- how many it passes on of a ticket for which there was memory: the group that it seals, and the ticket itself if it is a pulse
abbrev pub places_of : FrontState → Ticket → ℕ
places_of front ticket = places_in (take_step false front ticket.sender ticket.item).parcels

abbrev pub IsPacketItem : Item → Type 0
IsPacketItem (item.Packet job) = Unit {0}
IsPacketItem other = ⊥

-- a pulse or the Close, which seals the group held
abbrev pub IsControl : Item → Type 0
IsControl (item.Pulse moment) = Unit {0}
IsControl item.Close = Unit {0}
IsControl other = ⊥

-- The call added this ticket to what was queued, and the front took it. The engine has stopped only if it had before, or there
-- were no places for what the front passed on.
pub record Queues (old : EngineState) (ticket : Ticket) (new : EngineState) : Type 0 where
  pub adds : (start : LedgerState) (queue : List Ticket) (read : List ReplyValue) → Serves start queue read old
      → Serves start (queue ++ ticket ∷ []) read new
  pub steps : Steps old.front ticket new.front
  pub stopped : has_stopped new ≡ halts old.ledger (places_of old.front ticket)

-- the call added this reply to those that were read, and committed nothing
pub record Reads (old : EngineState) (reply : ReplyValue) (new : EngineState) : Type 0 where
  pub adds : (start : LedgerState) (queue : List Ticket) (read : List ReplyValue) → Serves start queue read old
      → Serves start queue (read ++ reply ∷ []) new
  pub stays : new.front ≡ old.front
  pub same : new.ledger ≡ old.ledger

-- The call added nothing, and the group held was sealed. The engine has stopped only if it had before, or there were no places for
-- the group.
pub record Continues (old new : EngineState) : Type 0 where
  pub adds : (start : LedgerState) (queue : List Ticket) (read : List ReplyValue) → Serves start queue read old
      → Serves start queue read new
  pub seals : new.front ≡ with_group old.front []
  pub stopped : has_stopped new ≡ halts old.ledger (length old.front.held)

-- ---- refusals

abbrev pub either : Option Refusal → Option Refusal → Option Refusal
either (Some refusal) other = Some refusal
either None other = other

abbrev pub refusal_in : Result ℕ Refusal → Option Refusal
refusal_in (Ok count) = None
refusal_in (Err refusal) = Some refusal

abbrev pub packet_with : ℕ → List ℕ → ℕ → Packet
packet_with operation bytes user = record { operation = operation; bytes = bytes; user = user }

-- why no packet of a submitter is queued: there is no such submitter, the engine stopped, or the submitter has no number left
abbrev pub refusal_of_sender : Bool → ℕ → List ℕ → ℕ → Option Refusal
refusal_of_sender stopped submitters numbers submitter =
    if nat_le submitters submitter then Some BadSubmitters
    else if stopped then Some Stopped
    else if get_or numbers submitter 0 == 2 ^ 64 - 1 then Some Full else None

-- why a packet isn't queued, if memory is there: its submitter's refusal, or that of its admission
abbrev pub refusal_of_packet : Bool → FrontState → List ℕ → ℕ → Packet → Option Refusal
refusal_of_packet stopped front numbers submitter packet =
    either (refusal_of_sender stopped front.submitters numbers submitter) (refusal_in (admission_of front.limit packet))

-- why a pulse isn't queued, if memory is there
abbrev pub refusal_of_pulse : Bool → Bool → ℕ → Option Refusal
refusal_of_pulse stopped shut moment =
    if nat_lt moment_max moment then Some MomentTooLarge else if shut then Some Shutdown
    else if stopped then Some Stopped else None

-- why the Close isn't queued, if memory is there
abbrev pub refusal_of_close : Bool → Option Refusal
refusal_of_close shut = if shut then Some Shutdown else None

-- the same of an engine in memory
abbrev pub submit_refusal : EngineState → ℕ → Packet → Option Refusal
submit_refusal engine submitter packet =
    refusal_of_packet (has_stopped engine) engine.front engine.numbers submitter packet

abbrev pub pulse_refusal : EngineState → ℕ → Option Refusal
pulse_refusal engine moment = refusal_of_pulse (has_stopped engine) engine.shut moment

abbrev pub shut_refusal : EngineState → Option Refusal
shut_refusal engine = refusal_of_close engine.shut

-- the first refusal that applies, else that memory ran out
abbrev pub IsRefusal : Option Refusal → Refusal → Type 0
IsRefusal first refusal = (first ≡ Some refusal) ⊎ ((first ≡ None) × (refusal ≡ NoMemory))

-- ---- what follows

-- the run that ends here, if this is the journal of what was committed, which began as that of `start`: each sender's end is
-- queued after all that it queued
abbrev pub ended_run : LedgerState → List Ticket → List ReplyValue → FrontState → Bool → LedgerState → Run
ended_run start queue read front shut ledger =
    let whole = ended_queue front.submitters shut queue in
    record {
      submitters = front.submitters;
      queue = whole;
      queued = λ sender. items_from sender whole;
      before = inputs start;
      ledger = ledger;
      replies = replies_to read;
    }

abbrev pub run_of : LedgerState → List Ticket → List ReplyValue → EngineState → LedgerState → Run
run_of start queue read engine ledger = ended_run start queue read engine.front engine.shut ledger

-- the replies due to what was queued, in order, if this is the journal
abbrev pub due_since : LedgerState → List Ticket → LedgerState → List ReplyValue
due_since start queue ledger = all_due start.opening (length (inputs start)) (items_in queue) (inputs ledger)

-- The engine keeps no journal, but there is one whose replay is the engine's state. It goes on from that of `start`, in groups
-- lawful under the limit. What it adds is a prefix of what was queued ahead of the Close, and the replies, read and unread,
-- are a prefix of those due by it. Unless something stopped, what is ahead is committed or held. While there are places nothing
-- has stopped, however often memory ran out. When nothing is held and all replies are read, the report on the run that ends here is
-- lawful.
pub record IsServed (start : LedgerState) (queue : List Ticket) (read : List ReplyValue) (engine : EngineState) : Type 0 where
  pub ledger : LedgerState
  pub own : ledger ≡ with_journal engine.ledger ledger.groups
  pub opening : ledger.opening ≡ start.opening
  pub continues : IsPrefix start.groups ledger.groups
  pub replayed : state_of engine ≡ replay start.opening (inputs ledger)
  pub counted : engine.ledger.places ≡ length (inputs ledger)
  pub joined : AreJoined engine.front.limit (groups_since start ledger)
  pub committed : IsPrefix (inputs_since start ledger) (ahead (items_in queue))
  pub due : IsPrefix (read ++ engine.unread) (due_since start queue ledger)
  pub replied : engine.front.held ≡ [] → read ++ engine.unread ≡ due_since start queue ledger
  pub whole : engine.front.stopped ≡ false → ledger.stopped ≡ false
      → inputs_since start ledger ++ inputs_in (held_by engine.front) ≡ ahead (items_in queue)
  pub goes : HasPlaces start (items_in queue) → (has_stopped engine ≡ false)
      × (inputs_since start ledger ++ inputs_in (held_by engine.front) ≡ ahead (items_in queue))
  pub report : engine.front.held ≡ [] → engine.unread ≡ [] → LawfulReport (run_of start queue read engine ledger)

-- Whatever was queued and read, in any order of calls.
abbrev pub ServingIsLawful : Type 0
ServingIsLawful =
    (start : LedgerState) (queue : List Ticket) (read : List ReplyValue) (engine : EngineState)
    → Serves start queue read engine → IsServed start queue read engine

-- ---- reading to the end

-- what `reply` returns, and the engine after it: the call's clauses
abbrev pub IsReply : EngineState → Option ReplyValue → EngineState → Type 0
IsReply old (Some reply) new = Reads old reply new × (old.unread ≡ reply ∷ new.unread)
IsReply old None new = (old.unread ≡ []) × (new ≡ old)

-- what calls of `reply` in a row return, and the engine after them
abbrev pub AreReplies : EngineState → List (Option ReplyValue) → EngineState → Type 0
AreReplies old [] new = new ≡ old
AreReplies old (result ∷ results) new =
    (middle : EngineState) × IsReply old result middle × AreReplies middle results new

-- Each call returned a reply, and with those read before they are all that are due. The report is lawful, and any further call
-- returns none.
pub record HaveAllCome (start : LedgerState) (queue : List Ticket) (read : List ReplyValue) (engine : EngineState)
    (results : List (Option ReplyValue)) (last : EngineState) : Type 0 where
  pub ledger : LedgerState
  pub replies : results ≡ map Some engine.unread
  pub due : read ++ engine.unread ≡ due_since start queue ledger
  pub report : LawfulReport (run_of start queue (read ++ engine.unread) last ledger)
  pub none : (result : Option ReplyValue) (next : EngineState) → IsReply last result next → result ≡ None

-- Whatever was queued and read: if nothing is held, as after a `flush` that returned Ok, as many calls of `reply` as packets have
-- unread replies return all of these.
abbrev pub RepliesCome : Type 0
RepliesCome =
    (start : LedgerState) (queue : List Ticket) (read : List ReplyValue) (engine : EngineState)
    (results : List (Option ReplyValue)) (last : EngineState)
    → Serves start queue read engine → engine.front.held ≡ []
    → length read + length results ≡ packets_in (items_in queue) → AreReplies engine results last
    → HaveAllCome start queue read engine results last

-- ---- calls that are made again

-- two engines in one state, which committed as much and have the same replies, read and unread
pub record AreAlike (read other_read : List ReplyValue) (engine other : EngineState) : Type 0 where
  pub state : state_of engine ≡ state_of other
  pub places : engine.ledger.places ≡ other.ledger.places
  pub replies : read ++ engine.unread ≡ other_read ++ other.unread

-- What was queued decides, if nothing is held: not when an engine was flushed, how packets joined, or where memory ran out. So a host
-- that stores its calls, without those that are refused, and makes them again has the ledger again.
abbrev pub QueueDecides : Type 0
QueueDecides =
    (start : LedgerState) (queue : List Ticket) (read other_read : List ReplyValue) (engine other : EngineState)
    → Serves start queue read engine → Serves start queue other_read other → HasPlaces start (items_in queue)
    → engine.front.held ≡ [] → other.front.held ≡ [] → AreAlike read other_read engine other

-- The state of an engine that holds nothing is the replay of what was committed before it and then queued ahead of the Close. Its
-- next place is after these. So it is as a journal says whose packets and pulses are queued in order.
abbrev pub JournalRestores : Type 0
JournalRestores =
    (start : LedgerState) (queue : List Ticket) (read : List ReplyValue) (engine : EngineState)
    → Serves start queue read engine → HasPlaces start (items_in queue) → engine.front.held ≡ []
    → (state_of engine ≡ replay start.opening (inputs start ++ ahead (items_in queue)))
    × (engine.ledger.places ≡ length (inputs start ++ ahead (items_in queue)))

-- A reply that says that its packet is committed at a place tells what the journal has there: exactly that packet. The place is one of
-- those that are committed. So a host that stores packets by the places in their replies stores the journal.
abbrev pub PlacesAreTrue : Type 0
PlacesAreTrue =
    (start : LedgerState) (queue : List Ticket) (read : List ReplyValue) (engine : EngineState)
    (index : ℕ) (reply : ReplyValue) (place : ℕ) (answer : Answer)
    → Serves start queue read engine → slice_get (read ++ engine.unread) index ≡ Some reply
    → reply.outcome ≡ Committed place answer
    → (place < engine.ledger.places)
    × (slice_get (inputs start ++ ahead (items_in queue)) place ≡ Some (input_of reply.packet))
