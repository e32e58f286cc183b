-- A run with one packet, from opening to its reply.
use Rattle.std.specs.Prelude.{◌≡◌, ℕ, List, [], ◌∷◌, ◌⊎◌, length, slice_index_or}
use Rattle.tb_core.specs.claim.Journal.{LedgerState}
use Rattle.tb_core.specs.claim.Ledger.{new_ledger}
use Rattle.tb_core.specs.claim.Report.{LawfulReport}
use Rattle.tb_machine.specs.claim.Replay.{answer_of, opening}
use Rattle.tb_submit.specs.clauses.Ends.{EndedState}
use Rattle.tb_pipe_tests.specs.inside.Together.{run_with}
use Rattle.tb_work.specs.claim.Packet.{events_in, ReplyValue}
use Rattle.tb_work.specs.claim.Answer.{reply_with}
use Rattle.tb_work.specs.claim.Job.{numbered_packet}
use Rattle.tb_work.specs.declared.item.Item.{Item}
use Rattle.tb_work.specs.declared.item.Item.TheVariants as item
use Rattle.tb_work.specs.declared.item.Ticket.{Ticket}
use Rattle.tb_work.specs.declared.outcome.Outcome.TheVariants.{Committed, Stopped}
use Rattle.tb_work.specs.declared.packet.Packet.{Packet}

-- what a submitter has queued that queued one packet and ended
abbrev pub one_and_end : Packet → List Item
one_and_end packet = item.Packet (numbered_packet 0 0 packet) ∷ item.End ∷ []

-- the report is lawful of a queue that one submitter filled so; the control only ended, and no reply was read yet
pub record IsRunOfOne (clock : ℕ) (packet : Packet) (ledger : LedgerState) (ends : List EndedState) : Type 0 where
  pub queue : List Ticket
  pub queued : ℕ → List Item
  pub submitted : queued 0 ≡ one_and_end packet
  pub controlled : queued 1 ≡ item.End ∷ []
  pub long : length ends ≡ 1
  pub unread : (d : EndedState) → (slice_index_or ends 0 d).read ≡ []
  pub opening : ledger.opening ≡ clock
  pub lawful : LawfulReport (run_with 1 queue queued (new_ledger clock) ledger ends)

-- the packet as it was handed in, Stopped, or committed at place 0 and answered by the state that was opened
abbrev pub IsReplyToOne : ℕ → Packet → ReplyValue → Type 0
IsReplyToOne clock packet reply =
    (reply ≡ reply_with Stopped (numbered_packet 0 0 packet))
    ⊎ (reply ≡ reply_with (Committed 0 (answer_of (opening clock) (events_in packet)))
    (numbered_packet 0 0 packet))
