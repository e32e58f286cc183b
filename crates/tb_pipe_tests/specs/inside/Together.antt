-- Ends that were opened together, and a run from opening to the report.
use Rattle.std.specs.Prelude.{◌≡◌, ℕ, List, map}
use Rattle.tb_core.specs.claim.Grouping.{IsGrouping}
use Rattle.tb_core.specs.claim.Journal.{LedgerState, groups_since, inputs}
use Rattle.tb_core.specs.claim.Ledger.{new_ledger}
use Rattle.tb_core.specs.claim.EndedRun.{Run}
use Rattle.tb_core.specs.claim.Report.{LawfulReport}
use Rattle.tb_submit.specs.clauses.Ends.{EndedState, SubmitterState, SenderState, origin_of, control_seat, replies_of}
use Rattle.tb_work.specs.declared.item.Item.{Item}
use Rattle.tb_work.specs.declared.item.Ticket.{Ticket}
use Rattle.tb_pipe.specs.clauses.Run.{PipelineState}

-- the submitters and the control are a pipeline's own, by rising number
abbrev pub AreTogether : {L : Type 0} → PipelineState L → List SubmitterState → SenderState → Type 0
AreTogether pipeline submitters control =
    (map origin_of submitters ≡ pipeline.submitters) × (control.seat ≡ control_seat pipeline.intake)

-- a pipeline over a new ledger that was opened with this clock and this limit, for this number of submitters
abbrev pub IsOpenedAs : ℕ → ℕ → ℕ → PipelineState LedgerState → Type 0
IsOpenedAs clock limit submitters pipeline =
    (pipeline.start ≡ new_ledger clock) × (pipeline.intake.limit ≡ limit) × (pipeline.intake.submitters ≡ submitters)

-- the run of these that began with this ledger and ended with that one
abbrev pub run_with : ℕ → List Ticket → (ℕ → List Item) → LedgerState → LedgerState → List EndedState → Run
run_with submitters queue queued start ledger ends =
    record {
      submitters = submitters;
      queue = queue;
      queued = queued;
      before = inputs start;
      ledger = ledger;
      replies = replies_of ends;
    }

-- of some queue that its senders filled, the report is lawful, and the groups that were added are lawful under the limit
abbrev pub IsRun : LedgerState → ℕ → ℕ → LedgerState → List EndedState → Type 0
IsRun start limit submitters ledger ends =
    (queue : List Ticket) × (queued : ℕ → List Item) × (ledger.opening ≡ start.opening)
    × LawfulReport (run_with submitters queue queued start ledger ends)
    × IsGrouping limit (groups_since start ledger)
