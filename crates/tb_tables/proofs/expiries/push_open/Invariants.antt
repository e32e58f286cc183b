use Rattle.std.proofs.Common.{◌≡◌, ◌≤◌, ◌+◌, ◌||◌, ℕ, ◌-◌, true, length, take}
use Rattle.std.specs.BinaryHeap.{heap_items, heap_len}
use Rattle.tb_tables.proofs.Words.{has_pair, IsReady, is_open_at}
use Rattle.tb_tables.proofs.expiries.push_open.Given as goal

abbrev pub invariant-loop-pair : goal.invariant-loop-pair
invariant-loop-pair l = record {
  ready : IsReady l.heap (length l.pairs - l.pair-index);
  stay : (m p : ℕ) → has_pair (heap_items l.fn.heap) m p ≡ true → has_pair (heap_items l.heap) m p ≡ true;
  come : (m p : ℕ) → is_open_at l.transfers p ≡ true → has_pair (take l.pair-index l.pairs) m p ≡ true
      → has_pair (heap_items l.heap) m p ≡ true;
  only : (m p : ℕ) → has_pair (heap_items l.heap) m p ≡ true
      → (has_pair (heap_items l.fn.heap) m p || is_open_at l.transfers p) ≡ true;
  most : heap_len l.heap ≤ heap_len l.fn.heap + l.pair-index;
}
