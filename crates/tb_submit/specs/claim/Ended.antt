-- The senders of a queue that have ended, by rising number, and the queue's intake.
use Rattle.std.specs.Prelude.{ℕ, zero, suc, Bool, List, [], ◌∷◌, ◌++◌, Option}
use Rattle.atomic_table.specs.Seated.{TableId}
use Rattle.tb_rings.specs.claim.RingId.{RingId}
use Rattle.tb_work.specs.claim.Packet.{ReplyValue}
use Rattle.tb_work.specs.declared.item.Item.{Item}
use Rattle.tb_work.specs.declared.item.Ticket.{Ticket}

-- A sender's place at a queue, by its number; the control's is after the last submitter's. `limit` is the most events of a
-- packet. A sender that was settled has left its queue.
pub record Seat : Type 0 where
  pub queue : Option TableId
  pub submitters : ℕ
  pub limit : ℕ
  pub number : ℕ

-- two ends with one origin are one end, at two moments
pub record Origin : Type 0 where
  pub seat : Seat
  pub ring : RingId

-- the control, or its end, with the tickets that it learned of (`Control::learn`)
pub record SenderState : Type 0 where
  pub seat : Seat
  pub queued : List Item
  pub learned : List (List Ticket)

-- a submitter that has ended; once it was settled, all of its unread replies are in its ring
pub record EndedState : Type 0 where
  pub origin : Origin
  pub queued : List Item
  pub read : List ReplyValue
  pub lying : List ReplyValue
  pub settled : Bool

-- the intake, with what it took, and after how many tickets it saw its queue empty
pub record IntakeState : Type 0 where
  pub queue : TableId
  pub submitters : ℕ
  pub limit : ℕ
  pub capacity : ℕ
  pub taken : List Ticket
  pub seen_empty : List ℕ

-- what each sender queued
abbrev pub queued_by : List EndedState → SenderState → ℕ → List Item
queued_by [] control sender = control.queued
queued_by (ended ∷ others) control zero = ended.queued
queued_by (ended ∷ others) control (suc sender) = queued_by others control sender

-- each submitter's replies, read or not
abbrev pub replies_of : List EndedState → ℕ → List ReplyValue
replies_of [] sender = []
replies_of (ended ∷ others) zero = ended.read ++ ended.lying
replies_of (ended ∷ others) (suc sender) = replies_of others sender
