-- A packet that was admitted, with its number.
use Rattle.std.specs.Prelude.{ℕ, ◌≡◌, ◌≤◌, ◌+◌, ◌==◌, Bool, false, List, [], ◌∷◌, if◌then◌else◌}
use Rattle.tb_layout.specs.claim.FailureRoom.{FailureRoomState}
use Rattle.tb_layout.specs.claim.Events.{create_accounts, create_transfers}
use Rattle.tb_layout.specs.claim.EventCounts.{is_open as is_open_events}
use Rattle.tb_layout.specs.claim.Account.{account_of, is_linked as is_linked_account}
use Rattle.tb_layout.specs.claim.Transfer.{transfer_of, is_linked as is_linked_transfer}
use Rattle.tb_work.specs.declared.packet.Packet.{Packet}
use Rattle.tb_work.specs.declared.stub.Stub.{Stub}
use Rattle.tb_work.specs.claim.Admission.{count_of, looks_up}
use Rattle.tb_work.specs.claim.Packet.{Numbered, events_in}

abbrev pub stub_of : Numbered → Stub
stub_of job = record { submitter = job.submitter; number = job.number; count = count_of job.packet }

-- how many events packets have together
abbrev pub count_of_all : List Numbered → ℕ
count_of_all [] = 0
count_of_all (job ∷ jobs) = count_of job.packet + count_of_all jobs

-- whether its last event is linked
abbrev pub is_open : Packet → Bool
is_open packet = is_open_events (events_in packet)

abbrev pub is_lookup : Packet → Bool
is_lookup packet = looks_up packet.operation

abbrev pub numbered_packet : ℕ → ℕ → Packet → Numbered
numbered_packet submitter number packet = record { submitter = submitter; number = number; packet = packet }

-- whether a chunk of a packet's data is a linked event
abbrev pub is_chunk_linked : ℕ → List ℕ → Bool
is_chunk_linked operation chunk =
    if operation == create_accounts then is_linked_account (account_of chunk)
    else if operation == create_transfers then is_linked_transfer (transfer_of chunk) else false

-- the failures of a packet, none so far, have room
pub record HasRoomFor (packet : Packet) (room : FailureRoomState) : Type 0 where
  pub empty : room.items ≡ []
  pub fits : is_lookup packet ≡ false → count_of packet ≤ room.capacity
