use Rattle.std.proofs.Common.{◌≡◌, ◌*◌, length, take}
use Rattle.tb_work.proofs.Words.{flat_map, bytes_of, ids_of}
use Rattle.tb_work.proofs.packet.lay_ids.Given as goal

abbrev pub invariant-loop-id : goal.invariant-loop-id
invariant-loop-id l = record {
  bytes : l.bytes.items ≡ flat_map (bytes_of 16) (take l.id-index l.ids);
  length : length l.bytes.items ≡ l.id-index * 16;
  events : ids_of l.bytes.items ≡ take l.id-index l.ids;
}
