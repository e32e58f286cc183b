-- What the senders of an engine queued.
use Rattle.std.specs.Prelude.{◌≡◌, ◌<◌, ℕ, zero, suc, ◌+◌, Bool, true, false, if◌then◌else◌, List, [], ◌∷◌, ◌++◌, get_or}
use Rattle.tb_work.specs.claim.Job.{numbered_packet}
use Rattle.tb_work.specs.claim.Ahead.{items_from}
use Rattle.tb_work.specs.claim.Queue.{AreNumbered, AreSubmitted, IsEnded, IsUnended}
use Rattle.tb_work.specs.declared.item.Item.{Item}
use Rattle.tb_work.specs.declared.item.Item.TheVariants as item
use Rattle.tb_work.specs.declared.item.Ticket.{Ticket}
use Rattle.tb_work.specs.declared.packet.Packet.{Packet}

abbrev pub packets_in : List Item → ℕ
packets_in [] = 0
packets_in (item.Packet job ∷ items) = packets_in items + 1
packets_in (other ∷ items) = packets_in items

abbrev pub HasEnded : Bool → List Item → Type 0
HasEnded true items = IsEnded items
HasEnded false items = IsUnended items

-- a sender's packets are its own and numbered from 0, the next one has this number, and its end is or isn't among its
-- items
pub record HasQueued (sender next : ℕ) (ended : Bool) (items : List Item) : Type 0 where
  pub numbered : AreNumbered sender 0 items
  pub counted : packets_in items ≡ next
  pub ends : HasEnded ended items

-- what submitters and their control queued: no submitter has ended, and the control has if it is shut
pub record AreQueued (submitters : ℕ) (queue : List Ticket) (numbers : List ℕ) (shut : Bool) : Type 0 where
  pub submitted : AreSubmitted submitters queue
  pub no_other_sender : (sender : ℕ) → submitters < sender → items_from sender queue ≡ []
  pub each : (sender : ℕ) → sender < submitters
      → HasQueued sender (get_or numbers sender 0) false (items_from sender queue)
  pub control : HasQueued submitters 0 shut (items_from submitters queue)

abbrev pub ticket_of : ℕ → Item → Ticket
ticket_of sender item = record { sender = sender; item = item }

-- a submitter's packet
abbrev pub packet_ticket : ℕ → ℕ → Packet → Ticket
packet_ticket submitter number packet =
    ticket_of submitter (item.Packet (numbered_packet submitter number packet))

-- ---- a run that ends

-- an End of each sender below a number
abbrev pub ends_of : ℕ → List Ticket
ends_of zero = []
ends_of (suc sender) = ends_of sender ++ ticket_of sender item.End ∷ []

-- the queue, and after it an End of each sender that hasn't ended
abbrev pub ended_queue : ℕ → Bool → List Ticket → List Ticket
ended_queue submitters shut queue = queue ++ ends_of (if shut then submitters else submitters + 1)
