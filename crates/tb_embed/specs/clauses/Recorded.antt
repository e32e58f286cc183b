-- An engine whose host may keep its journal: what the host has yet to get of it, and which replies wait until the host has stored it.
use Rattle.std.specs.Prelude.{◌≡◌, ◌==◌, ◌||◌, ◌-◌, ℕ, Bool, true, false, not, nat_lt, List, [], ◌∷◌, ◌++◌, length, slice_get, Option, Some, None, if◌then◌else◌}
use Rattle.tb_work.specs.claim.Packet.{ReplyValue}
use Rattle.tb_work.specs.declared.item.Ticket.{Ticket}
use Rattle.tb_work.specs.declared.outcome.Outcome.{Outcome}
use Rattle.tb_work.specs.declared.outcome.Outcome.TheVariants.{Committed}
use Rattle.tb_core.specs.claim.Journal.{LedgerState}
use Rattle.tb_embed.specs.clauses.Engine.{EngineState, Serves, has_stopped}
use Rattle.tb_embed.specs.clauses.Restoring.{packet_fault, pulse_fault}
use Rattle.tb_embed.specs.declared.restoring.PlacedPacket.{PlacedPacket}
use Rattle.tb_embed.specs.declared.restoring.PlacedPulse.{PlacedPulse}
use Rattle.tb_embed.specs.declared.restoring.RestoreFault.{RestoreFault}
use Rattle.tb_embed.specs.declared.restoring.RestoreFault.TheVariants.{InUse}

-- The engine, and whether its host keeps the journal. If it does: the pulses that weren't handed out, the replies to the packets that were,
-- and below which place all is stored.
pub record RecordedState : Type 0 where
  pub engine : EngineState
  pub records : Bool
  pub pulses : List PlacedPulse
  pub handed : List ReplyValue
  pub durable : ℕ

-- of its journal nothing was handed out, stored or committed
abbrev pub recorded : EngineState → Bool → RecordedState
recorded engine records = record { engine = engine; records = records; pulses = []; handed = []; durable = 0 }

-- only a host that keeps the journal is handed packets
abbrev pub IsRecorded : Bool → List ReplyValue → Type 0
IsRecorded records handed = records ≡ false → handed ≡ []

-- Since its ledger was `start` this was queued, and these replies were read. The engine's own are then those handed out too.
abbrev pub ServesRecorded : LedgerState → List Ticket → List ReplyValue → RecordedState → Type 0
ServesRecorded start queue read host = Serves start queue (read ++ host.handed) host.engine

-- all replies that aren't read
abbrev pub unread_of : RecordedState → List ReplyValue
unread_of host = host.handed ++ host.engine.unread

-- a call changed the engine alone
abbrev pub ChangesEngine : RecordedState → RecordedState → Type 0
ChangesEngine old new = new ≡ record old { engine = new.engine }

-- all below a place is stored
abbrev pub with_durable : RecordedState → ℕ → RecordedState
with_durable host places = record host { durable = if nat_lt host.durable places then places else host.durable }

-- ---- what is handed out

-- A pulse was committed, unless the engine stopped at it. If the host keeps the journal, it is handed out later, with its place: it is the
-- last that was committed.
abbrev pub placed_pulses : EngineState → Bool → ℕ → List PlacedPulse
placed_pulses engine records moment =
    if not records || has_stopped engine then [] else record { place = engine.ledger.places - 1; moment = moment } ∷ []

abbrev pub PulsesRecorded : RecordedState → ℕ → RecordedState → Type 0
PulsesRecorded old moment new =
    new ≡ record old { engine = new.engine; pulses = old.pulses ++ placed_pulses new.engine old.records moment }

-- whether a packet is committed
abbrev pub is_committed : Outcome → Bool
is_committed (Committed place answer) = true
is_committed other = false

-- the reply, if its packet is committed, and if it isn't
abbrev pub if_committed : Option ReplyValue → Option ReplyValue
if_committed None = None
if_committed (Some reply) = if is_committed reply.outcome then Some reply else None

abbrev pub if_uncommitted : Option ReplyValue → Option ReplyValue
if_uncommitted None = None
if_uncommitted (Some reply) = if is_committed reply.outcome then None else Some reply

-- the reply to the packet that is handed out next, unless a pulse is ahead of it
abbrev pub next_packet : RecordedState → Option ReplyValue
next_packet host = if host.records then if_committed (slice_get host.engine.unread 0) else None

abbrev pub is_below : ℕ → Outcome → Bool
is_below place (Committed other answer) = nat_lt place other
is_below place other = true

-- the first pulse, if it is ahead of the packet that is handed out next
abbrev pub pulse_ahead : Option PlacedPulse → Option ReplyValue → Option PlacedPulse
pulse_ahead None next = None
pulse_ahead (Some pulse) None = Some pulse
pulse_ahead (Some pulse) (Some reply) = if is_below pulse.place reply.outcome then Some pulse else None

abbrev pub next_pulse : RecordedState → Option PlacedPulse
next_pulse host = pulse_ahead (slice_get host.pulses 0) (next_packet host)

abbrev pub place_in : Outcome → ℕ
place_in (Committed place answer) = place
place_in other = 0

abbrev pub first_place : Option PlacedPulse → Option ReplyValue → ℕ → ℕ
first_place (Some pulse) packet places = pulse.place
first_place None (Some reply) places = place_in reply.outcome
first_place None None places = places

-- the place up to which all was handed out: that of the next pulse or packet, or if there is none the next place
abbrev pub handed_places : RecordedState → ℕ
handed_places host = first_place (next_pulse host) (next_packet host) host.engine.ledger.places

-- a packet was handed out: its reply waits until its place is stored
pub record HandsPacket (old : RecordedState) (reply : ReplyValue) (new : RecordedState) : Type 0 where
  pub handed : new ≡ record old { engine = new.engine; handed = old.handed ++ reply ∷ [] }
  pub left : unread_of new ≡ unread_of old
  pub adds : (start : LedgerState) (queue : List Ticket) (read : List ReplyValue) → ServesRecorded start queue read old
      → ServesRecorded start queue read new
  pub ledger : new.engine.ledger ≡ old.engine.ledger
  pub front : new.engine.front ≡ old.engine.front

-- ---- what may be read

-- whether all up to a packet is stored
abbrev pub is_stored : ℕ → Outcome → Bool
is_stored durable (Committed place answer) = nat_lt place durable
is_stored durable other = true

abbrev pub first_stored : ℕ → List ReplyValue → Option ReplyValue → Option ReplyValue
first_stored durable [] next = if_uncommitted next
first_stored durable (reply ∷ replies) next = if is_stored durable reply.outcome then Some reply else None

-- The reply that can be read. If the host keeps the journal, that of a packet that is committed waits until the packet was handed out,
-- and all up to its place is stored.
abbrev pub readable : RecordedState → Option ReplyValue
readable host =
    if host.records then first_stored host.durable host.handed (slice_get host.engine.unread 0) else slice_get host.engine.unread 0

-- a reply was read
pub record ReadsRecorded (old : RecordedState) (reply : ReplyValue) (new : RecordedState) : Type 0 where
  pub was : readable old ≡ Some reply
  pub left : unread_of old ≡ reply ∷ unread_of new
  pub adds : (start : LedgerState) (queue : List Ticket) (read : List ReplyValue) → ServesRecorded start queue read old
      → ServesRecorded start queue (read ++ reply ∷ []) new
  pub same : new ≡ record old { engine = new.engine; handed = new.handed }
  pub ledger : new.engine.ledger ≡ old.engine.ledger
  pub front : new.engine.front ≡ old.engine.front

-- ---- what is restored

-- A pulse isn't handed out yet, or the reply to a packet that was handed out isn't read. What else is committed has an unread reply in
-- the engine.
abbrev pub has_open_entries : RecordedState → Bool
has_open_entries host = not (length host.pulses == 0) || not (length host.handed == 0)

-- why a packet isn't restored, if memory is there
abbrev pub recorded_packet_fault : RecordedState → PlacedPacket → Option RestoreFault
recorded_packet_fault host entry = if has_open_entries host then Some InUse else packet_fault host.engine entry

-- why a pulse isn't
abbrev pub recorded_pulse_fault : RecordedState → PlacedPulse → Option RestoreFault
recorded_pulse_fault host entry = if has_open_entries host then Some InUse else pulse_fault host.engine entry
