-- A pipeline that was driven until all of its senders had ended.
use Rattle.std.specs.List.{AllByRecursion}
use Rattle.std.specs.Prelude.{◌≡◌, ◌<◌, ℕ, true, List, ◌++◌, Some, map, length, slice_get, slice_index_or, All}
use Rattle.tb_core.specs.claim.Grouping.{IsGrouping}
use Rattle.tb_core.specs.claim.Journal.{LedgerState, groups_since, inputs}
use Rattle.tb_core.specs.claim.EachSubmitter.{moments_in, moments_queued}
use Rattle.tb_core.specs.claim.Headline.{Headline}
use Rattle.tb_core.specs.claim.EndedRun.{IsPrefix, Run, committed_in}
use Rattle.tb_core.specs.claim.Report.{LawfulReport}
use Rattle.tb_submit.specs.clauses.Ends.{EndedState, SubmitterState, SenderState, control_seat, end_origin, origin_of, queued_by, replies_of, seat_at}
use Rattle.tb_submit.specs.clauses.Lists.{AreAheadOfClose}
use Rattle.tb_work.specs.claim.Packet.{Numbered, ReplyValue}
use Rattle.tb_work.specs.declared.item.Item.{Item}
use Rattle.tb_drive.specs.clauses.Plan.{with_items}
use Rattle.tb_drive.specs.clauses.Seen.{ArePrefixesOf, jobs_in}
use Rattle.tb_drive.specs.clauses.Tasks.{TasksState, task_submitter}
use Rattle.tb_pipe.specs.declared.driving.Finished.{Finished}
use Rattle.tb_pipe.specs.declared.opening.Opened.{Opened}
use Rattle.tb_pipe.specs.declared.settling.Report.{Report}
use Rattle.tb_pipe.specs.clauses.Run.{PipelineState, ServedState}

-- Whichever ledger a run began with, of those that one may be, there is one that it ended with, and this holds of both.
abbrev pub GoesFrom : (LedgerState → Type 0) → (LedgerState → Type 0) → (LedgerState → LedgerState → Type 0) → Type 0
GoesFrom was is holds = (start : LedgerState) → was start → (ledger : LedgerState) × is ledger × holds start ledger

-- what settling says of a run that began with a ledger: `control` is what its control queued
pub record IsReport (run : Run) (start : LedgerState) (limit : ℕ) (control : List Item) : Type 0 where
  pub lawful : LawfulReport run
  pub headline : Headline run
  pub grouping : IsGrouping limit (groups_since start run.ledger)
  pub pulses : IsPrefix (moments_in (committed_in run)) (moments_queued control)
  pub opening : run.ledger.opening ≡ start.opening

-- A report has the ledger of the pipeline that was served, and as many ends as there are submitters, settled. Each has the ring of the
-- end at its index, and what that read before. Each end was in the seat of its number, and what the control had learned of was taken
-- ahead of its Close.
pub record IsSettled {L : Type 0} (served : ServedState L) (ends : List EndedState) (control : SenderState) (report : Report L)
    : Type 0 where
  pub ledger : report.ledger ≡ served.ledger
  pub long : length report.ends.items ≡ served.intake.submitters
  pub read : (k : ℕ) (d : EndedState) → (slice_index_or report.ends.items k d).read ≡ (slice_index_or ends k d).read
  pub rings : (k : ℕ) (d : EndedState) → (slice_index_or report.ends.items k d).origin.ring
      ≡ (slice_index_or ends k d).origin.ring
  pub settled : All (λ (ended : EndedState). ended.settled ≡ true) report.ends.items
  pub ahead : AllByRecursion (AreAheadOfClose served.intake.taken) control.learned
  pub seats : (k : ℕ) (d : EndedState) → k < length ends → (slice_index_or ends k d).origin.seat ≡ seat_at served.intake k

-- the submitters and the control are a pipeline's own, by rising number, and there are as many as its queue has
abbrev pub AreTogether : {L : Type 0} → PipelineState L → List SubmitterState → SenderState → Type 0
AreTogether pipeline submitters control =
    (map origin_of submitters ≡ pipeline.submitters) × (control.seat ≡ control_seat pipeline.intake)
    × (length pipeline.submitters ≡ pipeline.intake.submitters)

-- what was opened is this pipeline and the senders of these tasks
abbrev pub AreTasksOf : {C L : Type 0} → Opened L → PipelineState L → TasksState C → Type 0
AreTasksOf opened pipeline tasks =
    (opened.pipeline ≡ pipeline) × (opened.submitters.items ≡ map task_submitter tasks.submitters)
    × (opened.control ≡ tasks.control.control)

-- a driver's relation holds of each driver, with what its submitter queued in a run, and what the end of its index read
abbrev pub HoldsOfEach : {D : Type 0} → (D → ℕ → List Numbered → List ReplyValue → Type 0) → ℕ → Run → List D
    → List EndedState → Type 0
HoldsOfEach {D} holds limit run drivers ends =
    (k : ℕ) (driver : D) (ended : EndedState) → slice_get drivers k ≡ Some driver → slice_get ends k ≡ Some ended
    → holds driver limit (jobs_in (run.queued k)) ended.read

-- `has_seen` and `has_ended` are relations of the submitters' drivers, and `ended_with` is one of the control's driver.
module _ {D C : Type 0} (has_seen has_ended : D → ℕ → List Numbered → List ReplyValue → Type 0)
    (ended_with : C → List Item → Type 0) where
  -- What was opened was run from one ledger to another, and `finished` came back. The run's queue is what the batcher took. What
  -- it says was queued is in the senders' own ends, what was queued before the run first. `items` are those of the control's
  -- driver, and what the control had learned of before the run is ahead of its Close. Each driver has seen what its submitter
  -- queued and read, and was asked until it ended.
  pub record HasReported {L : Type 0} (opened : Opened L) (finished : Finished D C L) (start ledger : LedgerState) : Type 0 where
    pub run : Run
    pub items : List Item
    pub submitters_are : run.submitters ≡ opened.pipeline.intake.submitters
    pub queue_is : run.queue ≡ finished.served.value.intake.taken
    pub queued_are : run.queued ≡ queued_by finished.unsettled.value.items (with_items opened.control items)
    pub began : run.before ≡ inputs start
    pub ledger_is : run.ledger ≡ ledger
    pub replies_are : run.replies ≡ replies_of finished.report.ends.items
    pub report : IsReport run start opened.pipeline.intake.limit (opened.control.queued ++ items)
    pub own : map end_origin finished.unsettled.value.items ≡ map origin_of opened.submitters.items
    pub queued_first : ArePrefixesOf opened.submitters.items finished.unsettled.value.items
    pub settled : All (λ (ended : EndedState). ended.settled ≡ true) finished.report.ends.items
    pub rings : (k : ℕ) (d : EndedState) → (slice_index_or finished.report.ends.items k d).origin.ring
        ≡ (slice_index_or finished.unsettled.value.items k d).origin.ring
    pub number : length finished.report.ends.items ≡ run.submitters
    pub controlled : run.queued run.submitters ≡ opened.control.queued ++ items
    pub ahead : AllByRecursion (AreAheadOfClose run.queue) opened.control.learned
    pub control_ended : ended_with finished.control items
    pub driven : length finished.drivers.items ≡ run.submitters
    pub seen : HoldsOfEach has_seen opened.pipeline.intake.limit run finished.drivers.items finished.report.ends.items
    pub ended : HoldsOfEach has_ended opened.pipeline.intake.limit run finished.drivers.items finished.report.ends.items
