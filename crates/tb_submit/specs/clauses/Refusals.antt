-- Why a call is refused.
use Rattle.std.specs.Prelude.{◌≡◌, ℕ, ◌-◌, ◌<◌, ◌==◌, false, ◌||◌, ◌⊎◌, if◌then◌else◌, nat_lt, List, [], ◌∷◌, length, Option, Some, None, Result, Ok, Err}
use Rattle.tb_layout.specs.claim.Bounds.{batch_max, capacity_max, submitters_max}
use Rattle.tb_work.specs.claim.Admission.{admission_of, count_of}
use Rattle.tb_work.specs.claim.Packet.{ReplyValue}
use Rattle.tb_work.specs.claim.Job.{is_lookup}
use Rattle.tb_work.specs.declared.outcome.Outcome.{Outcome}
use Rattle.tb_work.specs.declared.outcome.Outcome.TheVariants as outcome
use Rattle.tb_work.specs.declared.packet.Packet.{Packet}
use Rattle.tb_work.specs.declared.refusal.Refusal.{Refusal}
use Rattle.tb_work.specs.declared.refusal.Refusal.TheVariants.{InFlight, Full, NoMemory, Shutdown, Stopped, BadLimit, BadCapacity, BadSubmitters}
use Rattle.tb_submit.specs.clauses.Ends.{SubmitterState}

-- the refusal is the one that is due, or if none is due, one of the others
abbrev pub IsRefusal : Option Refusal → (Refusal → Type 0) → Refusal → Type 0
IsRefusal None Other refusal = Other refusal
IsRefusal (Some due) Other refusal = refusal ≡ due

abbrev pub or_else : Option Refusal → Option Refusal → Option Refusal
or_else None other = other
or_else (Some refusal) other = Some refusal

-- ---- opening

-- why a queue can't be opened, memory left out: the limit, the capacity or the credit, the number of submitters, in
-- this order
abbrev pub queue_refusal : ℕ → ℕ → ℕ → ℕ → Option Refusal
queue_refusal limit capacity credit submitters =
    if nat_lt limit 1 || nat_lt batch_max limit then Some BadLimit
    else if nat_lt capacity 1 || nat_lt capacity_max capacity || nat_lt credit 1 || nat_lt capacity_max credit
    then Some BadCapacity
    else if nat_lt submitters 1 || nat_lt submitters_max submitters then Some BadSubmitters
    else None

-- why it isn't opened: the refusal that is due, or NoMemory if none is
abbrev pub IsQueueRefusal : ℕ → ℕ → ℕ → ℕ → Refusal → Type 0
IsQueueRefusal limit capacity credit submitters refusal =
    IsRefusal (queue_refusal limit capacity credit submitters) (λ other. other ≡ NoMemory) refusal

-- ---- submitting

-- what an outcome says of all packets that come later
abbrev pub refusal_of : Outcome → Option Refusal
refusal_of (outcome.Committed place answer) = None
refusal_of outcome.Shutdown = Some Shutdown
refusal_of outcome.Stopped = Some Stopped

-- the first refusal that replies imply
abbrev pub first_refusal_in : List ReplyValue → Option Refusal
first_refusal_in [] = None
first_refusal_in (reply ∷ replies) = or_else (refusal_of reply.outcome) (first_refusal_in replies)

abbrev pub refusal_in : Result ℕ Refusal → Option Refusal
refusal_in (Ok count) = None
refusal_in (Err refusal) = Some refusal

-- the packets queued less the replies read
abbrev pub in_flight : SubmitterState → ℕ
in_flight submitter = length submitter.queued - length submitter.read

-- a shutdown or a stop in a reply read, the packet itself, the credit, in this order
abbrev pub submit_refusal : SubmitterState → Packet → Option Refusal
submit_refusal submitter packet =
    or_else (first_refusal_in submitter.read)
    (or_else (refusal_in (admission_of submitter.origin.seat.limit packet))
    (if in_flight submitter == submitter.credit then Some InFlight else None))

-- its failures need memory: those of up to two events are kept in the job itself, and a lookup has none
abbrev pub TakesMemory : Packet → Type 0
TakesMemory packet = (is_lookup packet ≡ false) × (2 < count_of packet)

-- why a packet isn't queued: the refusal that is due; if none is, NoMemory if it takes memory, or a full queue
abbrev pub IsSubmitRefusal : SubmitterState → Packet → Refusal → Type 0
IsSubmitRefusal submitter packet refusal =
    IsRefusal (submit_refusal submitter packet) (λ other. ((other ≡ NoMemory) × TakesMemory packet)
    ⊎ (other ≡ Full)) refusal
