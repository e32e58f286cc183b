-- The reply that is due to each packet of a queue.
use Rattle.std.specs.Prelude.{ℕ, ◌+◌, ◌==◌, List, [], ◌∷◌, ◌++◌, filter, Option, Some, None}
use Rattle.tb_layout.specs.declared.answer.Answer.{Answer}
use Rattle.tb_layout.specs.claim.Events.{Input}
use Rattle.tb_machine.specs.claim.AnswerAt.{answer_at}
use Rattle.tb_work.specs.claim.Packet.{ReplyValue}
use Rattle.tb_work.specs.claim.Answer.{reply_with}
use Rattle.tb_work.specs.claim.Ahead.{items_in}
use Rattle.tb_work.specs.declared.item.Item.{Item}
use Rattle.tb_work.specs.declared.item.Item.TheVariants as item
use Rattle.tb_work.specs.declared.item.Ticket.{Ticket}
use Rattle.tb_work.specs.declared.outcome.Outcome.{Outcome}
use Rattle.tb_work.specs.declared.outcome.Outcome.TheVariants.{Committed, Shutdown, Stopped}

-- An item of a queue is ahead of the Close, after `k` packets and pulses, those of earlier runs included, or behind the
-- Close.
pub data Place : Type 0 where
  Ahead : ℕ → Place
  Behind : Place

-- the place after an item
abbrev pub next_place : Place → Item → Place
next_place Behind item = Behind
next_place (Ahead k) (item.Packet job) = Ahead (k + 1)
next_place (Ahead k) (item.Pulse moment) = Ahead (k + 1)
next_place (Ahead k) item.End = Ahead k
next_place (Ahead k) item.Close = Behind

-- a packet is committed if the journal has an answer at its place
abbrev pub outcome_with : ℕ → Option Answer → Outcome
outcome_with place (Some answer) = Committed place answer
outcome_with place None = Stopped

-- a packet's outcome, by its place in the queue, if these packets and pulses were committed from this clock on
abbrev pub outcome_at : ℕ → List Input → Place → Outcome
outcome_at clock inputs (Ahead place) = outcome_with place (answer_at clock inputs place)
outcome_at clock inputs Behind = Shutdown

abbrev pub reply_due : Outcome → Item → List ReplyValue
reply_due outcome (item.Packet job) = reply_with outcome job ∷ []
reply_due outcome other = []

abbrev pub all_due_from : ℕ → List Input → Place → List Item → List ReplyValue
all_due_from clock inputs place [] = []
all_due_from clock inputs place (item ∷ items) =
    reply_due (outcome_at clock inputs place) item ++ all_due_from clock inputs (next_place place item) items

-- the replies to a queue's packets, in order, if this number of packets and pulses had been committed before the queue's
-- first
abbrev pub all_due : ℕ → ℕ → List Item → List Input → List ReplyValue
all_due clock before items inputs = all_due_from clock inputs (Ahead before) items

abbrev pub replies_to : List ReplyValue → ℕ → List ReplyValue
replies_to replies submitter = filter (λ (reply : ReplyValue). reply.packet.submitter == submitter) replies

-- the replies to a submitter's packets, in order
abbrev pub due : ℕ → ℕ → List Ticket → List Input → ℕ → List ReplyValue
due clock before queue inputs submitter = replies_to (all_due clock before (items_in queue) inputs) submitter
