-- A run whose threads have ended.
use Rattle.std.specs.Prelude.{◌≡◌, ℕ, ◌<◌, Bool, true, false, List, ◌++◌, drop, length}
use Rattle.std.specs.List.{list_any}
use Rattle.tb_layout.specs.claim.Events.{Input}
use Rattle.tb_work.specs.claim.Ahead.{ahead, items_in}
use Rattle.tb_work.specs.claim.Packet.{ReplyValue}
use Rattle.tb_work.specs.declared.outcome.Outcome.{Outcome}
use Rattle.tb_work.specs.declared.outcome.Outcome.TheVariants.{Stopped}
use Rattle.tb_work.specs.declared.item.Item.{Item}
use Rattle.tb_work.specs.declared.item.Ticket.{Ticket}
use Rattle.tb_core.specs.claim.Journal.{LedgerState, inputs}

-- `queue` is as the intake popped it, `queued` what each sender queued itself. The control is the sender after the last
-- submitter. `before` is what earlier runs committed.
pub record Run : Type 0 where
  pub submitters : ℕ
  pub queue : List Ticket
  pub queued : ℕ → List Item
  pub before : List Input
  pub ledger : LedgerState
  pub replies : ℕ → List ReplyValue

-- what this run committed
abbrev pub committed_in : Run → List Input
committed_in run = drop (length run.before) (inputs run.ledger)

abbrev pub ahead_in : Run → List Input
ahead_in run = ahead (items_in run.queue)

abbrev pub IsPrefix : {A : Type 0} → List A → List A → Type 0
IsPrefix {A} front all = (rest : List A) × (front ++ rest ≡ all)

abbrev pub is_stopped : Outcome → Bool
is_stopped Stopped = true
is_stopped outcome = false

abbrev pub any_stopped : List ReplyValue → Bool
any_stopped replies = list_any (λ (reply : ReplyValue). is_stopped reply.outcome) replies

pub record NothingStopped (run : Run) : Type 0 where
  pub ledger : run.ledger.stopped ≡ false
  pub replies : (submitter : ℕ) → submitter < run.submitters → any_stopped (run.replies submitter) ≡ false
