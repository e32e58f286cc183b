-- The headline.
use Rattle.std.specs.Prelude.{◌≡◌, ◌<◌, ℕ, ◌+◌, List, [], ◌∷◌, length, map, take, slice_get, Some}
use Rattle.tb_machine.specs.claim.Replay.{replay, answer_of}
use Rattle.tb_work.specs.claim.Queue.{IsQueueOf}
use Rattle.tb_work.specs.claim.Packet.{Numbered, events_in, ReplyValue, input_of}
use Rattle.tb_work.specs.declared.item.Item.{Item}
use Rattle.tb_work.specs.declared.item.Item.TheVariants as item
use Rattle.tb_work.specs.declared.outcome.Outcome.{Outcome}
use Rattle.tb_work.specs.declared.outcome.Outcome.TheVariants.{Committed, Shutdown, Stopped}
use Rattle.tb_core.specs.claim.Journal.{inputs}
use Rattle.tb_core.specs.claim.EndedRun.{Run, committed_in, ahead_in, IsPrefix, NothingStopped}

abbrev pub packets_queued : List Item → List Numbered
packets_queued [] = []
packets_queued (item.Packet packet ∷ items) = packet ∷ packets_queued items
packets_queued (other ∷ items) = packets_queued items

abbrev pub IsIn : {X : Type 0} → X → List X → Type 0
IsIn {X} x xs = (index : ℕ) × (slice_get xs index ≡ Some x)

-- What an outcome says of its packet is true. A committed packet is at its place, which counts on from earlier runs, with
-- the answer that the state machine gives it alone after what is before it. A stopped one is ahead of the Close and isn't
-- committed, and one that is shut down isn't ahead of the Close.
abbrev pub IsTrueOf : Run → Numbered → Outcome → Type 0
IsTrueOf run packet (Committed place answer) =
    (index : ℕ) × (place ≡ length run.before + index) × (slice_get (committed_in run) index ≡ Some (input_of packet))
    × (answer ≡ answer_of (replay run.ledger.opening (take place (inputs run.ledger))) (events_in packet.packet))
IsTrueOf run packet Stopped =
    IsIn (input_of packet) (ahead_in run) × (IsIn (input_of packet) (committed_in run) → ⊥)
IsTrueOf run packet Shutdown = IsIn (input_of packet) (ahead_in run) → ⊥

-- The queue has what each sender queued, its end last. The journal goes on from earlier runs. What is committed is a prefix
-- of what is ahead of the Close, all of it unless something stopped. Replies are one per queued packet, in order, and what
-- each says is true. The state is that of the whole journal.
pub record Headline (run : Run) : Type 0 where
  pub queued : IsQueueOf run.submitters run.queue run.queued
  pub continues : IsPrefix run.before (inputs run.ledger)
  pub committed : IsPrefix (committed_in run) (ahead_in run)
  pub all : NothingStopped run → committed_in run ≡ ahead_in run
  pub replied : (submitter : ℕ) → submitter < run.submitters
      → map (λ (reply : ReplyValue). reply.packet) (run.replies submitter) ≡ packets_queued (run.queued submitter)
  pub answered : (submitter index : ℕ) (reply : ReplyValue) → submitter < run.submitters
      → slice_get (run.replies submitter) index ≡ Some reply → IsTrueOf run reply.packet reply.outcome
  pub state : run.ledger.state ≡ replay run.ledger.opening (inputs run.ledger)
