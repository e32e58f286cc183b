-- The report of a run whose threads have ended. No definition here mentions a batch.
use Rattle.std.specs.Prelude.{◌≡◌, ◌↔◌, ℕ, ◌<◌, length}
use Rattle.tb_machine.specs.claim.Replay.{replay}
use Rattle.tb_work.specs.claim.Queue.{IsQueueOf}
use Rattle.tb_core.specs.claim.Due.{due}
use Rattle.tb_core.specs.claim.Journal.{inputs}
use Rattle.tb_core.specs.claim.EndedRun.{Run, committed_in, ahead_in, IsPrefix, NothingStopped}
use Rattle.tb_core.specs.claim.Headline.{Headline}

-- The queue is as its senders filled it. The journal still begins with what was committed before. What the run committed is
-- a prefix of what is ahead of the Close, and all of it exactly if nothing stopped. The machine's state is the replay of the
-- journal, and each submitter's replies are those due.
pub record LawfulReport (run : Run) : Type 0 where
  pub filled : IsQueueOf run.submitters run.queue run.queued
  pub continues : IsPrefix run.before (inputs run.ledger)
  pub committed : IsPrefix (committed_in run) (ahead_in run)
  pub complete : NothingStopped run ↔ (committed_in run ≡ ahead_in run)
  pub state : run.ledger.state ≡ replay run.ledger.opening (inputs run.ledger)
  pub replied : (submitter : ℕ) → submitter < run.submitters
      → run.replies submitter ≡ due run.ledger.opening (length run.before) run.queue (inputs run.ledger) submitter

-- a lawful report has all that the headline says
abbrev pub ReportsHeadline : Type 0
ReportsHeadline = (run : Run) → LawfulReport run → Headline run
