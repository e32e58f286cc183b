-- A run from opening to the report, put together from what the calls say.
use Rattle.std.proofs.Common.{◌≡◌, ℕ, List, ap, subst}
use Rattle.tb_core.specs.claim.Journal.{LedgerState}
use Rattle.tb_core.specs.claim.Ledger.{new_ledger}
use Rattle.tb_submit.specs.clauses.Ends.{EndedState, IntakeState}
use Rattle.tb_pipe.specs.clauses.Run.{PipelineState, ServedState}
use Rattle.tb_pipe_tests.specs.inside.Together.{IsOpenedAs, IsRun}

-- a run is also that of another start, limit and number if these are the same
same_run : {start other : LedgerState} {limit bound submitters count : ℕ} (ledger : LedgerState) (ends : List EndedState)
    → start ≡ other → limit ≡ bound → submitters ≡ count → IsRun start limit submitters ledger ends
    → IsRun other bound count ledger ends
same_run {start} {other} {limit} {bound} {submitters} ledger ends begins bounds counts run =
    subst (λ n. IsRun other bound n ledger ends) counts
    (subst (λ n. IsRun other n submitters ledger ends) bounds
    (subst (λ (l : LedgerState). IsRun l limit submitters ledger ends) begins run))

-- what serving leaves of a pipeline, settled
pub is_run : (pipeline : PipelineState LedgerState) (served : ServedState LedgerState) (ledger : LedgerState) (ends : List EndedState)
    → served.start ≡ pipeline.start
    → served.intake ≡ record pipeline.intake { taken = served.intake.taken; seen_empty = served.intake.seen_empty }
    → IsRun served.start served.intake.limit served.intake.submitters ledger ends
    → IsRun pipeline.start pipeline.intake.limit pipeline.intake.submitters ledger ends
is_run pipeline served ledger ends start intake =
    same_run ledger ends start (ap (λ (i : IntakeState). i.limit) intake) (ap (λ (i : IntakeState). i.submitters) intake)

-- the same of a pipeline that was opened so
pub run_as : (clock limit submitters : ℕ) (pipeline : PipelineState LedgerState) (ledger : LedgerState) (ends : List EndedState)
    → IsOpenedAs clock limit submitters pipeline
    → IsRun pipeline.start pipeline.intake.limit pipeline.intake.submitters ledger ends
    → IsRun (new_ledger clock) limit submitters ledger ends
run_as clock limit submitters pipeline ledger ends opened = same_run ledger ends opened.0 opened.1 opened.2
