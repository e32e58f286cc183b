use Rattle.std.proofs.Common.{◌≡◌, ◌≤◌, ◌<◌, ◌++◌, ℕ, map, take, length, slice_index_or, true}
use Rattle.tb_submit.proofs.Words.{ReplyValue, given, Outlet, EndedState, entry_of}
use Rattle.tb_submit.proofs.DrainedQueue.{IsFiled}
use Rattle.tb_submit.proofs.settling.settle_all.Given as goal

abbrev pub invariant-loop-k : goal.invariant-loop-k
invariant-loop-k l = record {
  reader : l.reader
      ≡ record l.fn.reader {
        entries = l.fn.reader.entries ++ map entry_of (take l.k l.fn.ends.items);
        learned = l.reader.learned;
      };
  long : length l.ends.items ≡ length l.fn.ends.items;
  outlets : length l.outlets.items ≡ length l.fn.outlets.items;
  rest : (j : ℕ) (d : EndedState) → l.k ≤ j → slice_index_or l.ends.items j d ≡ slice_index_or l.fn.ends.items j d;
  ungiven : (j : ℕ) (d : Outlet ReplyValue) → l.k ≤ j
      → slice_index_or l.outlets.items j d ≡ slice_index_or l.fn.outlets.items j d;
  read : (j : ℕ) (d : EndedState) → (slice_index_or l.ends.items j d).read ≡ (slice_index_or l.fn.ends.items j d).read;
  rings : (j : ℕ) (d : EndedState) → (slice_index_or l.ends.items j d).origin.ring
      ≡ (slice_index_or l.fn.ends.items j d).origin.ring;
  settled : (j : ℕ) (d : EndedState) → j < l.k → (slice_index_or l.ends.items j d).settled ≡ true;
  filed : (j : ℕ) (d : EndedState) → j < l.k → IsFiled (slice_index_or l.fn.ends.items j d);
  replies : (j : ℕ) (d : EndedState) (o : Outlet ReplyValue) → j < l.k
      → (slice_index_or l.ends.items j d).read ++ (slice_index_or l.ends.items j d).lying
      ≡ given (slice_index_or l.fn.outlets.items j o);
}
