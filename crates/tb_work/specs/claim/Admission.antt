-- Which packets are admitted.
use Rattle.std.specs.Prelude.{ℕ, Bool, ◌/◌, ◌%◌, ◌==◌, not, List, length, Option, Some, None, Result, Ok, Err, nat_lt, if◌then◌else◌}
use Rattle.tb_layout.specs.claim.Events.{create_accounts, create_transfers}
use Rattle.tb_layout.specs.claim.EventCounts.{lookup_accounts}
use Rattle.tb_work.specs.declared.packet.Packet.{Packet}
use Rattle.tb_work.specs.declared.refusal.Refusal.{Refusal}
use Rattle.tb_work.specs.declared.refusal.Refusal.TheVariants.{InvalidOperation, InvalidDataSize, TooMuchData}

-- an operation that asks for what is stored
abbrev pub looks_up : ℕ → Bool
looks_up operation = operation == lookup_accounts

-- the bytes of one event of an operation; a lookup's events are ids
abbrev pub event_size : ℕ → Option ℕ
event_size operation =
    if operation == create_accounts then Some 128 else if operation == create_transfers then Some 128
    else if looks_up operation then Some 16 else None

abbrev pub admission_of_size : ℕ → List ℕ → Option ℕ → Result ℕ Refusal
admission_of_size limit bytes None = Err InvalidOperation
admission_of_size limit bytes (Some size) =
    if not (length bytes % size == 0) then Err InvalidDataSize
    else if nat_lt limit (length bytes / size) then Err TooMuchData
    else Ok (length bytes / size)

-- the number of its events, or why a packet is not admitted
abbrev pub admission_of : ℕ → Packet → Result ℕ Refusal
admission_of limit packet = admission_of_size limit packet.bytes (event_size packet.operation)

-- how many events a packet has
abbrev pub count_of_size : List ℕ → Option ℕ → ℕ
count_of_size bytes None = 0
count_of_size bytes (Some size) = length bytes / size

abbrev pub count_of : Packet → ℕ
count_of packet = count_of_size packet.bytes (event_size packet.operation)
