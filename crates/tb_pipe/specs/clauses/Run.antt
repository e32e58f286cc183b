-- What callers see of a pipeline before it runs, and after.
use Rattle.std.specs.Prelude.{◌≡◌, List, [], length}
use Rattle.tb_core.specs.claim.Journal.{LedgerState}
use Rattle.tb_rings.specs.clauses.Ends.{given, taken, IsRing}
use Rattle.tb_submit.specs.clauses.Ends.{IntakeState, Origin, origins}
use Rattle.tb_pipe.specs.clauses.Carried.{AllBatched, AllCommitted}
use Rattle.tb_pipe.specs.clauses.Outlets.{AllRouted}
use Rattle.tb_pipe.specs.clauses.Stages.{IsReady}
use Rattle.tb_pipe.specs.declared.stages.Stages.{Stages}
use Rattle.tb_pipe.specs.declared.stages.StoppedStages.{StoppedStages}

-- the ledger that it starts with, its intake, and where its submitters come from, by rising number
pub record PipelineState (L : Type 0) : Type 0 where
  pub start : L
  pub intake : IntakeState
  pub submitters : List Origin

abbrev pub pipeline_of : {L : Type 0} → Stages L → PipelineState L
pipeline_of stages =
    record {
      start = stages.start.value;
      intake = stages.intake;
      submitters = origins stages.intake stages.demultiplexer.outlets.items;
    }

pub record IsPipeline {L : Type 0} (is : L → LedgerState → Type 0) (stages : Stages L) : Type 0 where
  pub ready : IsReady is stages
  pub unserved : (taken stages.committer.inlet ≡ []) × (given stages.committer.outlet ≡ [])
  pub rings : IsRing stages.batches stages.committer.inlet × IsRing stages.committer.outlet stages.demultiplexer.inlet
  pub number : length stages.demultiplexer.outlets.items ≡ stages.intake.submitters

-- the same once it has run, with its ledger as it is then
pub record ServedState (L : Type 0) : Type 0 where
  pub start : L
  pub intake : IntakeState
  pub submitters : List Origin
  pub ledger : L

abbrev pub served_of : {L : Type 0} → StoppedStages L → ServedState L
served_of remains = record {
  start = remains.start.value;
  intake = remains.intake;
  submitters = origins remains.intake remains.routed.outlets.items;
  ledger = remains.committed.ledger;
}

pub record IsServed {L : Type 0} (is : L → LedgerState → Type 0) (remains : StoppedStages L) : Type 0 where
  pub rings : IsRing remains.batches remains.committed.inlet × IsRing remains.committed.outlet remains.routed.inlet
  pub number : length remains.routed.outlets.items ≡ remains.intake.submitters
  pub batched : AllBatched remains.intake (given remains.batches)
  pub committed : (start : LedgerState) → is remains.start.value start → AllCommitted start (taken remains.committed.inlet)
      (is remains.committed.ledger) (given remains.committed.outlet)
  pub routed : AllRouted (taken remains.routed.inlet) remains.routed.outlets.items
