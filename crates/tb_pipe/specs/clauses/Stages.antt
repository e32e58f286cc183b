-- The stages before they run, and after.
use Rattle.std.specs.Prelude.{◌≡◌}
use Rattle.tb_core.specs.claim.Journal.{LedgerState}
use Rattle.tb_rings.specs.clauses.Ends.{given, taken, SameOutlet, SameInlet}
use Rattle.tb_pipe.specs.clauses.Carried.{IsBatched, AllBatched, IsCommitted, AllCommitted, answers_in}
use Rattle.tb_pipe.specs.clauses.Outlets.{SameOutlets, AllGiven, AllRouted}
use Rattle.tb_pipe.specs.declared.stages.Stages.{Stages}
use Rattle.tb_pipe.specs.declared.stages.StoppedStages.{StoppedStages}

-- each stage did as much as it had taken, whichever ledger the run started with
pub record IsReady {L : Type 0} (is : L → LedgerState → Type 0) (stages : Stages L) : Type 0 where
  pub batched : IsBatched stages.intake
      stages.front (given stages.batches)
  pub committed : (start : LedgerState) → is stages.start.value start → IsCommitted start (taken stages.committer.inlet)
      (is stages.committer.ledger) (given stages.committer.outlet)
  pub replies : AllGiven (answers_in (taken stages.demultiplexer.inlet)) stages.demultiplexer.outlets.items

-- the ends that come back are those that were handed in, and all was passed on
pub record HaveServed {L : Type 0} (is : L → LedgerState → Type 0) (stages : Stages L) (remains : StoppedStages L) : Type 0 where
  pub rings : SameOutlet stages.batches remains.batches × SameInlet stages.committer.inlet remains.committed.inlet
      × SameOutlet stages.committer.outlet remains.committed.outlet × SameInlet stages.demultiplexer.inlet remains.routed.inlet
      × SameOutlets stages.demultiplexer.outlets.items remains.routed.outlets.items
  pub start : remains.start.value ≡ stages.start.value
  pub intake : remains.intake ≡ record stages.intake {
    taken = remains.intake.taken;
    seen_empty = remains.intake.seen_empty;
  }
  pub batched : AllBatched remains.intake (given remains.batches)
  pub committed : (start : LedgerState) → is stages.start.value start → AllCommitted start (taken remains.committed.inlet)
      (is remains.committed.ledger) (given remains.committed.outlet)
  pub routed : AllRouted (taken remains.routed.inlet) remains.routed.outlets.items
