-- Why a packet of a driver is refused for good.
use Rattle.std.specs.Prelude.{◌≡◌, ℕ, List, Option}
use Rattle.tb_submit.specs.clauses.Refusals.{IsRefusal, TakesMemory, or_else, refusal_in, first_refusal_in}
use Rattle.tb_work.specs.claim.Admission.{admission_of}
use Rattle.tb_work.specs.claim.Packet.{ReplyValue}
use Rattle.tb_work.specs.declared.packet.Packet.{Packet}
use Rattle.tb_work.specs.declared.refusal.Refusal.{Refusal}
use Rattle.tb_work.specs.declared.refusal.Refusal.TheVariants.{NoMemory}

-- the first reply read with a shutdown or a stop, and then the packet's own admission; a used-up credit is none
abbrev pub final_refusal : ℕ → List ReplyValue → Packet → Option Refusal
final_refusal limit read packet = or_else (first_refusal_in read) (refusal_in (admission_of limit packet))

-- the refusal is the one that is due, or if none is, NoMemory, if the packet takes any
abbrev pub IsFinalRefusal : ℕ → List ReplyValue → Packet → Refusal → Type 0
IsFinalRefusal limit read packet refusal =
    IsRefusal (final_refusal limit read packet) (λ other. (other ≡ NoMemory) × TakesMemory packet) refusal
