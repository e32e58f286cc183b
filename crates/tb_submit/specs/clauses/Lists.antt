-- What a sender queues.
use Rattle.std.specs.Prelude.{◌≡◌, ◌≢◌, ℕ, ◌+◌, List, [], ◌∷◌, ◌++◌, IsOk}
use Rattle.std.specs.List.{AllByRecursion}
use Rattle.tb_work.specs.claim.Admission.{admission_of}
use Rattle.tb_work.specs.claim.Queue.{IsSubmitted, AreNumbered, IsEnded}
use Rattle.tb_work.specs.declared.item.Item.{Item}
use Rattle.tb_work.specs.declared.item.Item.TheVariants.{Packet, Pulse, Close}
use Rattle.tb_work.specs.declared.item.Ticket.{Ticket}

-- a packet was admitted, and so has at most `limit` events
abbrev pub IsWithin : ℕ → Item → Type 0
IsWithin limit (Packet job) = IsOk (admission_of limit job.packet)
IsWithin limit other = Unit {0}

abbrev pub AreWithin : ℕ → List Ticket → Type 0
AreWithin limit queue = AllByRecursion (λ (ticket : Ticket). IsWithin limit ticket.item) queue

-- only packets, a submitter's own, numbered from a number on, each admitted under the limit
abbrev pub ArePackets : ℕ → ℕ → ℕ → List Item → Type 0
ArePackets limit sender number [] = Unit {0}
ArePackets limit sender number (Packet job ∷ items) =
    (job.submitter ≡ sender) × (job.number ≡ number) × IsOk (admission_of limit job.packet)
    × ArePackets limit sender (number + 1) items
ArePackets limit sender number (other ∷ items) = ⊥

-- only pulses
abbrev pub ArePulses : List Item → Type 0
ArePulses [] = Unit {0}
ArePulses (Pulse moment ∷ items) = ArePulses items
ArePulses (other ∷ items) = ⊥

abbrev pub BeginsWith : List Ticket → List Ticket → Type 0
BeginsWith queue seen = (rest : List Ticket) × (seen ++ rest ≡ queue)

-- these tickets are the first of the queue, and the Close isn't one of them
abbrev pub AreAheadOfClose : List Ticket → List Ticket → Type 0
AreAheadOfClose queue seen = BeginsWith queue seen × AllByRecursion (λ (ticket : Ticket). ticket.item ≢ Close) seen

-- all that a sender queued, with its end: each item is its own, and packets are numbered from 0 and within the limit
pub record IsCompleteQueue (limit submitters sender : ℕ) (items : List Item) : Type 0 where
  pub submitted : AllByRecursion (IsSubmitted submitters sender) items
  pub within : AllByRecursion (IsWithin limit) items
  pub numbered : AreNumbered sender 0 items
  pub ended : IsEnded items
