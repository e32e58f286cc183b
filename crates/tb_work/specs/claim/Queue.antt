-- Queues of tickets, as their senders fill them.
use Rattle.std.specs.Prelude.{◌≡◌, ◌<◌, ◌≤◌, ℕ, ◌+◌, Bool, true, false, not, List, [], ◌∷◌, ◌++◌}
use Rattle.std.specs.List.{list_all, AllByRecursion}
use Rattle.tb_work.specs.claim.Ahead.{items_from}
use Rattle.tb_work.specs.declared.item.Item.{Item}
use Rattle.tb_work.specs.declared.item.Item.TheVariants.{Packet, Pulse, End, Close}
use Rattle.tb_work.specs.declared.item.Ticket.{Ticket}

abbrev pub is_end : Item → Bool
is_end (Packet job) = false
is_end (Pulse moment) = false
is_end End = true
is_end Close = true

abbrev pub IsUnended : List Item → Type 0
IsUnended items = list_all (λ item. not (is_end item)) items ≡ true

-- the last item, and no other, is an end
pub record IsEnded (items : List Item) : Type 0 where
  pub body : List Item
  pub last : Item
  pub parts : items ≡ body ++ last ∷ []
  pub unended : IsUnended body
  pub ends : is_end last ≡ true

-- packets are their submitters' own; pulses and the Close are the control's, the sender after the last submitter
abbrev pub IsSubmitted : ℕ → ℕ → Item → Type 0
IsSubmitted submitters sender (Packet job) = (job.submitter ≡ sender) × (sender < submitters)
IsSubmitted submitters sender (Pulse moment) = sender ≡ submitters
IsSubmitted submitters sender End = Unit {0}
IsSubmitted submitters sender Close = sender ≡ submitters

abbrev pub AreSubmitted : ℕ → List Ticket → Type 0
AreSubmitted submitters queue =
    AllByRecursion (λ (ticket : Ticket). IsSubmitted submitters ticket.sender ticket.item) queue

-- a sender's packets are its own, and numbered from `number` on
abbrev pub AreNumbered : ℕ → ℕ → List Item → Type 0
AreNumbered sender number [] = Unit {0}
AreNumbered sender number (Packet job ∷ items) =
    (job.submitter ≡ sender) × (job.number ≡ number) × AreNumbered sender (number + 1) items
AreNumbered sender number (other ∷ items) = AreNumbered sender number items

-- Senders 0 to `submitters`, the control being the last, put exactly what each of them queued into the queue, in order
-- and its end last. Packets are numbered from 0.
pub record IsQueueOf (submitters : ℕ) (queue : List Ticket) (queued : ℕ → List Item) : Type 0 where
  pub parts : (sender : ℕ) → sender ≤ submitters → items_from sender queue ≡ queued sender
  pub no_other_sender : (sender : ℕ) → submitters < sender → items_from sender queue ≡ []
  pub submitted : AreSubmitted submitters queue
  pub numbered : (sender : ℕ) → sender ≤ submitters → AreNumbered sender 0 (queued sender)
  pub ended : (sender : ℕ) → sender ≤ submitters → IsEnded (queued sender)
