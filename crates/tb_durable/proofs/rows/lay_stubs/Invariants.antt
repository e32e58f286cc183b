use Rattle.std.proofs.Common.{◌≡◌, ◌*◌, length, take}
use Rattle.tb_durable.proofs.Words.{stubs_bytes, stubs_in}
use Rattle.tb_durable.proofs.rows.lay_stubs.Given as goal

abbrev pub invariant-loop-stub : goal.invariant-loop-stub
invariant-loop-stub l = record {
  bytes : l.bytes.items ≡ stubs_bytes (take l.stub-index l.stubs);
  length : length l.bytes.items ≡ l.stub-index * 16;
  events : stubs_in l.bytes.items ≡ take l.stub-index l.stubs;
}
