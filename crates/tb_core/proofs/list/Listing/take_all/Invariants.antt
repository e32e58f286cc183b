use Rattle.std.proofs.Common.{◌≡◌, ℕ, []}
use Rattle.tb_core.proofs.Words.{LedgerState, IsRunning}
use Rattle.tb_core.proofs.ItemList.{IsUnderWay}
use Rattle.tb_core.proofs.list.Listing.take_all.Given as goal

abbrev pub invariant-loop-item : goal.invariant-loop-item
invariant-loop-item l = record {
  none : l.parcels.items ≡ [];
  runs : (start : LedgerState) (limit : ℕ) → IsRunning start limit [] l.initial.self.front l.initial.self.ledger
      l.initial.self.replies.items → IsUnderWay start limit l.fn.items.items l.item-iterator.rest.items l.self.front
      l.self.ledger l.self.replies.items;
}
