-- Two runs over one ledger, the second begun with what the first ended with.
use Rattle.std.specs.Prelude.{◌≡◌, ◌<◌, ℕ, ◌++◌, take, slice_get, Some}
use Rattle.tb_layout.specs.declared.answer.Answer.{Answer}
use Rattle.tb_machine.specs.claim.Replay.{replay, answer_of}
use Rattle.tb_work.specs.claim.Packet.{Numbered, ReplyValue, events_in, input_of}
use Rattle.tb_work.specs.declared.outcome.Outcome.TheVariants.{Committed}
use Rattle.tb_core.specs.claim.EachSubmitter.{packets_of, IsCommittedOf}
use Rattle.tb_core.specs.claim.EndedRun.{Run, committed_in}
use Rattle.tb_core.specs.claim.Headline.{Headline}
use Rattle.tb_core.specs.claim.Journal.{LedgerState, inputs}

-- the second run began with the journal and the opening clock that the first ended with
pub record FollowsOn (first second : Run) : Type 0 where
  pub opening : second.ledger.opening ≡ first.ledger.opening
  pub before : second.before ≡ inputs first.ledger

-- a packet is at this place of the journal, and this is the answer to it alone after all that is before it
pub record IsAnsweredIn (ledger : LedgerState) (place : ℕ) (packet : Numbered) (answer : Answer) : Type 0 where
  pub there : slice_get (inputs ledger) place ≡ Some (input_of packet)
  pub alone : answer ≡ answer_of (replay ledger.opening (take place (inputs ledger))) (events_in packet.packet)

-- what a run's replies say of committed packets is true of this ledger's journal
abbrev pub AnswersStand : Run → LedgerState → Type 0
AnswersStand run ledger =
    (submitter index : ℕ) (reply : ReplyValue) (place : ℕ) (answer : Answer) → submitter < run.submitters
    → slice_get (run.replies submitter) index ≡ Some reply → reply.outcome ≡ Committed place answer
    → IsAnsweredIn ledger place reply.packet answer

-- The journal is what was before, then what the first run committed, then what the second did, and the state is its replay.
-- Of each submitter there are the packets that the first run committed, and after them those that the second committed. Each
-- are a prefix of what it queued ahead of that run's Close. All that both runs answered is true of the journal at the end.
pub record AreOneRun (first second : Run) : Type 0 where
  pub journal : inputs second.ledger ≡ first.before ++ (committed_in first ++ committed_in second)
  pub state : second.ledger.state ≡ replay first.ledger.opening (inputs second.ledger)
  pub packets : (submitter : ℕ) → packets_of submitter (committed_in first ++ committed_in second)
      ≡ packets_of submitter (committed_in first) ++ packets_of submitter (committed_in second)
  pub of_first : (submitter : ℕ) → submitter < first.submitters → IsCommittedOf first submitter
  pub of_second : (submitter : ℕ) → submitter < second.submitters → IsCommittedOf second submitter
  pub answers_of_first : AnswersStand first second.ledger
  pub answers_of_second : AnswersStand second second.ledger

-- so it is of any two runs with a headline
abbrev pub TwoRunsAreOne : Type 0
TwoRunsAreOne =
    (first second : Run) → Headline first → Headline second → FollowsOn first second → AreOneRun first second
