use Rattle.tb_pipe.proofs.Words.{given, taken, SameInlet, SameOutlet, LedgerState, AreCleared, IsCommitted}
use Rattle.tb_pipe.proofs.committing.Committer.commit_all.Given as goal

abbrev pub invariant-loop : goal.invariant-loop
invariant-loop g l = record {
  inlet : SameInlet l.fn.self.inlet l.self.inlet;
  outlet : SameOutlet l.fn.self.outlet l.self.outlet;
  committed : (start : LedgerState) → IsCommitted start (taken l.fn.self.inlet)
      (g.L.AnyLedger.is l.fn.self.ledger) (given l.fn.self.outlet)
      → IsCommitted start (taken l.self.inlet) (g.L.AnyLedger.is l.self.ledger) (given l.self.outlet);
  cleared : AreCleared (g.G.Gate.lets_through l.fn.gate) (taken l.fn.self.inlet) (taken l.self.inlet) l.batches;
}
