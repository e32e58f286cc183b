-- What a host restores of the journal that it keeps: packets and pulses, each at its place.
use Rattle.std.specs.Prelude.{◌≡◌, ◌⊎◌, ◌==◌, ◌&&◌, ◌||◌, ℕ, Bool, false, not, nat_lt, List, [], ◌∷◌, ◌++◌, length, get_or, Option, Some, None, if◌then◌else◌}
use Rattle.tb_layout.specs.claim.Bounds.{places_max}
use Rattle.tb_work.specs.claim.Packet.{ReplyValue}
use Rattle.tb_work.specs.declared.item.Item.TheVariants as item
use Rattle.tb_work.specs.declared.item.Ticket.{Ticket}
use Rattle.tb_work.specs.declared.refusal.Refusal.{Refusal}
use Rattle.tb_work.specs.declared.refusal.Refusal.TheVariants.{NoMemory}
use Rattle.tb_core.specs.claim.Journal.{LedgerState}
use Rattle.tb_embed.specs.clauses.Engine.{EngineState, Serves, has_stopped, pulse_refusal, submit_refusal}
use Rattle.tb_embed.specs.clauses.Queued.{packet_ticket, ticket_of}
use Rattle.tb_embed.specs.declared.restoring.PlacedPacket.{PlacedPacket}
use Rattle.tb_embed.specs.declared.restoring.PlacedPulse.{PlacedPulse}
use Rattle.tb_embed.specs.declared.restoring.RestoreFault.{RestoreFault}
use Rattle.tb_embed.specs.declared.restoring.RestoreFault.TheVariants.{InUse, NotNext, Refused}

-- whether an engine holds nothing and wasn't shut, so that a packet is committed as it comes
abbrev pub is_idle : EngineState → Bool
is_idle engine =
    ((length engine.front.held == 0) && not (engine.front.closed || engine.front.stopped)) && (length engine.unread == 0)

abbrev pub fault_of : Option Refusal → Bool → Option RestoreFault
fault_of (Some refusal) is_next = Some (Refused refusal)
fault_of None is_next = if is_next then None else Some NotNext

-- whether a place is the next one, and not past the last
abbrev pub is_next_place : EngineState → ℕ → Bool
is_next_place engine place = (place == engine.ledger.places) && nat_lt place places_max

-- why a packet isn't restored, if memory is there: it must be the next by its place, and by its number among its submitter's
abbrev pub packet_fault : EngineState → PlacedPacket → Option RestoreFault
packet_fault engine entry =
    if not (is_idle engine) then Some InUse
    else fault_of (submit_refusal engine entry.submitter entry.packet)
    (is_next_place engine entry.place && (entry.number == get_or engine.numbers entry.submitter 0))

-- why a pulse isn't
abbrev pub pulse_fault : EngineState → PlacedPulse → Option RestoreFault
pulse_fault engine entry =
    if not (is_idle engine) then Some InUse
    else fault_of (pulse_refusal engine entry.moment) (is_next_place engine entry.place)

-- the first fault that applies, else that memory ran out
abbrev pub IsFault : Option RestoreFault → RestoreFault → Type 0
IsFault first fault = (first ≡ Some fault) ⊎ ((first ≡ None) × (fault ≡ Refused NoMemory))

-- The call added this ticket to what was queued. Nothing is held and nothing has stopped, so it is committed. Its reply is unread.
pub record RestoresTicket (old : EngineState) (ticket : Ticket) (new : EngineState) : Type 0 where
  pub adds : (start : LedgerState) (queue : List Ticket) (read : List ReplyValue) → Serves start queue read old
      → Serves start (queue ++ ticket ∷ []) read new
  pub held : new.front.held ≡ []
  pub goes : has_stopped new ≡ false

abbrev pub RestoresPacket : EngineState → PlacedPacket → EngineState → Type 0
RestoresPacket old entry new = RestoresTicket old (packet_ticket entry.submitter entry.number entry.packet) new

abbrev pub RestoresPulse : EngineState → PlacedPulse → EngineState → Type 0
RestoresPulse old entry new = RestoresTicket old (ticket_of old.front.submitters (item.Pulse entry.moment)) new

-- The same of a packet, whose reply counts as read: none is unread. So `restore_packet` leaves nothing to be handed out.
pub record RestoresUnseen (old : EngineState) (entry : PlacedPacket) (new : EngineState) : Type 0 where
  pub replies : List ReplyValue
  pub adds : (start : LedgerState) (queue : List Ticket) (read : List ReplyValue) → Serves start queue read old
      → Serves start (queue ++ packet_ticket entry.submitter entry.number entry.packet ∷ []) (read ++ replies) new
  pub held : new.front.held ≡ []
  pub goes : has_stopped new ≡ false
  pub unread : (start : LedgerState) (queue : List Ticket) (read : List ReplyValue) → Serves start queue read old → new.unread ≡ []
