use Rattle.std.proofs.Common.{◌≡◌, length, map, take}
use Rattle.tb_layout.specs.claim.Failures.{from_offset}
use Rattle.tb_work.proofs.reply.rebase_into.Given as goal

abbrev pub invariant-loop-failure : goal.invariant-loop-failure
invariant-loop-failure l = record {
  items : l.room.items ≡ map (from_offset l.offset) (take l.failure-index l.failures);
  len : length l.room.items ≡ l.failure-index;
  capacity : l.room.capacity ≡ l.fn.room.capacity;
}
