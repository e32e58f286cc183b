-- A run with threads.
use Rattle.std.specs.Prelude.{List}
use Rattle.tb_core.specs.claim.Journal.{LedgerState, inputs}
use Rattle.tb_core.specs.claim.EndedRun.{Run}
use Rattle.tb_submit.specs.claim.Ended.{EndedState, IntakeState, SenderState, queued_by, replies_of}

-- the run of a pipeline with these ends, its ledger at the start and after, and the ends as they came back
abbrev pub run_of : IntakeState → List EndedState → SenderState → LedgerState → LedgerState → List EndedState → Run
run_of intake ends control start ledger settled =
    record {
      submitters = intake.submitters;
      queue = intake.taken;
      queued = queued_by ends control;
      before = inputs start;
      ledger = ledger;
      replies = replies_of settled;
    }
