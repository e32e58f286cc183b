-- The entries of a journal, as C hands them over.
use Rattle.std.specs.Prelude.{◌≡◌, ◌<◌, ◌⊎◌, ◌==◌, ℕ, Bool, true, false, not, nat_lt, if◌then◌else◌, List, drop, length, Option, Some, None}
use Rattle.tb_work.specs.claim.Packet.{ReplyValue}
use Rattle.tb_work.specs.clauses.Refusal.{number_of}
use Rattle.tb_work.specs.declared.refusal.Refusal.TheVariants.{InvalidDataSize, NoMemory}
use Rattle.tb_embed.specs.clauses.Recorded.{ChangesEngine, HandsPacket, RecordedState, handed_places, next_packet, next_pulse, place_in, recorded_packet_fault as packet_fault, recorded_pulse_fault as pulse_fault, with_durable}
use Rattle.tb_embed.specs.clauses.Engine.{EngineState}
use Rattle.tb_embed.specs.clauses.Restoring.{RestoresPulse, RestoresUnseen}
use Rattle.tb_embed.specs.declared.restoring.PlacedPacket.{PlacedPacket}
use Rattle.tb_embed.specs.declared.restoring.PlacedPulse.{PlacedPulse}
use Rattle.tb_embed.specs.declared.restoring.RestoreFault.{RestoreFault}
use Rattle.tb_embed.specs.declared.restoring.RestoreFault.TheVariants.{InUse, NotNext, Refused}
use Rattle.kip.specs.declared.entries.KipEntry.{KipEntry}
use Rattle.kip.specs.clauses.Handle.{closed, in_use, no_entry, not_handed_out, not_next, not_recorded, too_small}
use Rattle.kip.specs.clauses.Results.{AreWritten}

-- ---- what is handed out

-- the entry of a pulse, which has no data
abbrev pub pulse_entry : PlacedPulse → KipEntry
pulse_entry pulse =
    record { place = pulse.place; moment = pulse.moment; number = 0; size = 0; submitter = 0; operation = 0 }

-- the entry of a packet, whose data are its events
abbrev pub packet_entry : ReplyValue → KipEntry
packet_entry reply = record {
  place = place_in reply.outcome;
  moment = 0;
  number = reply.packet.number;
  size = length reply.packet.packet.bytes;
  submitter = reply.packet.submitter;
  operation = reply.packet.packet.operation;
}

-- a pulse was handed out
pub record HandsPulse (entry : KipEntry) (before after : List ℕ) (old : RecordedState) (pulse : PlacedPulse) (new : RecordedState) : Type 0 where
  pub head : entry ≡ pulse_entry pulse
  pub left : new ≡ record old { pulses = drop 1 old.pulses }
  pub written : after ≡ before

-- a packet was handed out, with its data in the buffer
pub record HandsData (entry : KipEntry) (before after : List ℕ) (old : RecordedState) (reply : ReplyValue) (new : RecordedState) : Type 0 where
  pub head : entry ≡ packet_entry reply
  pub left : HandsPacket old reply new
  pub written : AreWritten reply.packet.packet.bytes (length reply.packet.packet.bytes) before after

-- what was handed out: a pulse, or the packet that is next
abbrev pub HandsOut : KipEntry → List ℕ → List ℕ → RecordedState → Option PlacedPulse → Option ReplyValue → RecordedState → Type 0
HandsOut entry before after old (Some pulse) packet new = HandsPulse entry before after old pulse new
HandsOut entry before after old None (Some reply) new = HandsData entry before after old reply new
HandsOut entry before after old None None new = ⊥

-- the entry is that of the next packet, whose data needs more than the buffer has
pub record IsTooLarge (entry : KipEntry) (before after : List ℕ) (packet : Option ReplyValue) : Type 0 where
  pub reply : ReplyValue
  pub is_next : packet ≡ Some reply
  pub head : entry ≡ packet_entry reply
  pub larger : length before < length reply.packet.packet.bytes
  pub written : after ≡ before

-- the entry is that of the next packet, and its data is in the buffer
pub record IsPeeked (entry : KipEntry) (before after : List ℕ) (packet : Option ReplyValue) : Type 0 where
  pub reply : ReplyValue
  pub is_next : packet ≡ Some reply
  pub head : entry ≡ packet_entry reply
  pub written : AreWritten reply.packet.packet.bytes (length reply.packet.packet.bytes) before after

-- 0 with the next packet, `no_entry` without one, `too_small` with a buffer that is
pub record IsPacketStatus (status : ℕ) (was entry : KipEntry) (before after : List ℕ) (host : RecordedState) : Type 0 where
  pub peeked : status ≡ 0 → IsPeeked entry before after (next_packet host)
  pub none : status ≡ no_entry → (next_packet host ≡ None) × ((entry ≡ was) × (after ≡ before))
  pub small : status ≡ too_small → IsTooLarge entry before after (next_packet host)
  pub one_of : (status ≡ 0) ⊎ ((status ≡ no_entry) ⊎ (status ≡ too_small))

-- 0 with the next entry, `no_entry` without one, `too_small` with a buffer that is, or memory ran out for a packet that was written
-- there. It is `not_recorded` exactly if the host keeps no journal.
pub record IsHandingOut (status : ℕ) (was entry : KipEntry) (before after : List ℕ) (old new : RecordedState) : Type 0 where
  pub hands : status ≡ 0 → HandsOut entry before after old (next_pulse old) (next_packet old) new
  pub none : status ≡ no_entry → (next_pulse old ≡ None) × ((next_packet old ≡ None) × ((entry ≡ was) × (after ≡ before)))
  pub unrecorded : status ≡ not_recorded → (entry ≡ was) × (after ≡ before)
  pub small : status ≡ too_small → (next_pulse old ≡ None) × IsTooLarge entry before after (next_packet old)
  pub memory : status ≡ number_of NoMemory → (next_pulse old ≡ None) × IsPeeked entry before after (next_packet old)
  pub same : (status ≡ 0 → ⊥) → new ≡ old
  pub recorded : old.records ≡ not (status == not_recorded)
  pub one_of : (status ≡ 0) ⊎ ((status ≡ no_entry) ⊎ ((status ≡ too_small) ⊎ ((status ≡ number_of NoMemory) ⊎ (status ≡ not_recorded))))

-- a closed handle hands out nothing
abbrev pub IsHandingOutOf : ℕ → KipEntry × KipEntry → List ℕ × List ℕ → Option RecordedState → Option RecordedState → Type 0
IsHandingOutOf status (was, entry) (before, after) (Some old) (Some new) = IsHandingOut status was entry before after old new
IsHandingOutOf status entries buffers (Some old) None = ⊥
IsHandingOutOf status (was, entry) (before, after) None new = (status ≡ closed) × ((new ≡ None) × ((entry ≡ was) × (after ≡ before)))

-- ---- what is stored

-- 0 if all below these places was handed out, which is noted
pub record IsStoring (status places : ℕ) (old new : RecordedState) : Type 0 where
  pub unrecorded : old.records ≡ false → (status ≡ not_recorded) × (new ≡ old)
  pub early : old.records ≡ true → nat_lt (handed_places old) places ≡ true → (status ≡ not_handed_out) × (new ≡ old)
  pub stored : old.records ≡ true → nat_lt (handed_places old) places ≡ false → (status ≡ 0) × (new ≡ with_durable old places)

abbrev pub IsStoringOf : ℕ → ℕ → Option RecordedState → Option RecordedState → Type 0
IsStoringOf status places (Some old) (Some new) = IsStoring status places old new
IsStoringOf status places (Some old) None = ⊥
IsStoringOf status places None new = (status ≡ closed) × (new ≡ None)

-- ---- what is restored

-- an operation of more than a byte is none
abbrev pub narrow : ℕ → ℕ
narrow operation = if nat_lt operation 256 then operation else 0

abbrev pub placed_packet : KipEntry → List ℕ → PlacedPacket
placed_packet entry bytes = record {
  place = entry.place;
  submitter = entry.submitter;
  number = entry.number;
  packet = record { operation = narrow entry.operation; bytes = bytes; user = 0 };
}

abbrev pub placed_pulse : KipEntry → PlacedPulse
placed_pulse entry = record { place = entry.place; moment = entry.moment }

abbrev pub if_empty : ℕ → Option RestoreFault → Option RestoreFault
if_empty size fault = if size == 0 then fault else Some (Refused InvalidDataSize)

-- why an entry isn't restored, if memory is there: its size is that of the data, and a pulse has no data
abbrev pub restore_fault : RecordedState → KipEntry → List ℕ → Option RestoreFault
restore_fault host entry bytes =
    if not (entry.size == length bytes) then Some (Refused InvalidDataSize)
    else if entry.operation == 0 then if_empty entry.size (pulse_fault host (placed_pulse entry))
    else packet_fault host (placed_packet entry bytes)

abbrev pub fault_number : RestoreFault → ℕ
fault_number InUse = in_use
fault_number NotNext = not_next
fault_number (Refused refusal) = number_of refusal

-- the first fault that applies, or that memory ran out
abbrev pub IsFaultOrMemory : Option RestoreFault → RestoreFault → Type 0
IsFaultOrMemory first fault = (first ≡ Some fault) ⊎ (fault ≡ Refused NoMemory)

-- 0 if there is no fault, else the number of one
abbrev pub IsFaultStatus : Option RestoreFault → ℕ → Type 0
IsFaultStatus first status =
    ((status ≡ 0) × (first ≡ None)) ⊎ ((fault : RestoreFault) × (IsFaultOrMemory first fault × (status ≡ fault_number fault)))

-- a pulse, or else a packet, was committed again
abbrev pub RestoresEither : Bool → KipEntry → List ℕ → EngineState → EngineState → Type 0
RestoresEither true entry bytes old new = RestoresPulse old (placed_pulse entry) new
RestoresEither false entry bytes old new = RestoresUnseen old (placed_packet entry bytes) new

-- 0 with the entry restored
pub record IsRestoring (status : ℕ) (entry : KipEntry) (bytes : List ℕ) (old new : RecordedState) : Type 0 where
  pub restores : status ≡ 0 → RestoresEither (entry.operation == 0) entry bytes old.engine new.engine
  pub engine : ChangesEngine old new
  pub same : (status ≡ 0 → ⊥) → new ≡ old
  pub fault : IsFaultStatus (restore_fault old entry bytes) status

abbrev pub IsRestoringOf : ℕ → KipEntry → List ℕ → Option RecordedState → Option RecordedState → Type 0
IsRestoringOf status entry bytes (Some old) (Some new) = IsRestoring status entry bytes old new
IsRestoringOf status entry bytes (Some old) None = ⊥
IsRestoringOf status entry bytes None new = (status ≡ closed) × (new ≡ None)
