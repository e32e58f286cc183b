use Rattle.std.proofs.Common.{◌≡◌, ◌≤◌, ◌+◌, ◌||◌, ℕ, true, [], length}
use Rattle.std.specs.BinaryHeap.{heap_items, heap_len}
use Rattle.tb_tables.proofs.Words.{has_pair, is_in_expiries, IsReady, is_open_at}
use Rattle.tb_tables.proofs.expiries.Expiries.keep.Given as goal

abbrev pub invariant-loop-popped : goal.invariant-loop-popped
invariant-loop-popped l = record {
  ready : IsReady l.self-inside.heap 0;
  kept : l.self-inside.fresh.items ≡ [];
  stay : (m p : ℕ) → is_open_at l.transfers p ≡ true → is_in_expiries l.fn.self m p ≡ true
      → has_pair (heap_items l.self-inside.heap) m p ≡ true;
  only : (m p : ℕ) → has_pair (heap_items l.self-inside.heap) m p ≡ true
      → (has_pair l.fn.self.kept m p || is_open_at l.transfers p) ≡ true;
  gone : heap_len l.self-inside.heap + l.popped ≤ length l.fn.self.kept + length l.fn.self.fresh;
}
