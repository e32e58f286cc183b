use Rattle.tb_durable.proofs.Words.{◌≡◌, ◌≤◌, false, IsSome, IsClean, doubt, PacketCounts, HasJournal, IsReplaying, LeavesNothingNew, HasReadFile, IsHalfway}
use Rattle.tb_durable.proofs.reading.replay_rows.Given as goal

abbrev pub invariant-loop : goal.invariant-loop
invariant-loop g l = record {
  cursor : IsSome ((g.S.Store.view l.table.store).cursors 0);
  clean : doubt (g.S.Store.view l.fn.table.store).is_clean ≤ doubt (g.S.Store.view l.table.store).is_clean;
  same : IsClean (g.S.Store.view l.table.store)
      → (g.S.Store.view l.table.store).committed ≡ (g.S.Store.view l.fn.table.store).committed;
  replaying : IsClean (g.S.Store.view l.table.store)
      → IsReplaying (g.S.Store.view l.fn.table.store) l.fn.replaying.ledger
      → IsReplaying (g.S.Store.view l.table.store) l.replaying.ledger;
  file : IsClean (g.S.Store.view l.table.store)
      → HasReadFile (g.S.Store.view l.fn.table.store) l.fn.replaying.ledger l.fn.replaying.counts
      → HasReadFile (g.S.Store.view l.table.store) l.replaying.ledger l.replaying.counts;
  halfway : (counts : PacketCounts) → IsClean (g.S.Store.view l.table.store)
      → IsHalfway (g.S.Store.view l.fn.table.store) l.fn.replaying.ledger l.fn.replaying.counts counts
      → IsHalfway (g.S.Store.view l.table.store) l.replaying.ledger l.replaying.counts counts;
  crash : LeavesNothingNew (g.S.Store.recovers l.fn.table.store) (g.S.Store.recovers l.table.store);
  committed : HasJournal l.fn.replaying.ledger → HasJournal l.replaying.ledger;
  goes_on : l.fn.replaying.ledger.stopped ≡ false → l.replaying.ledger.stopped ≡ false;
}
