use Rattle.std.proofs.Common.{◌≡◌, ◌*◌, length, take}
use Rattle.tb_work.proofs.Words.{flat_map, transfer_bytes, transfers_of}
use Rattle.tb_work.proofs.packet.lay_transfers.Given as goal

abbrev pub invariant-loop-transfer : goal.invariant-loop-transfer
invariant-loop-transfer l = record {
  bytes : l.bytes.items ≡ flat_map transfer_bytes (take l.transfer-index l.transfers);
  length : length l.bytes.items ≡ l.transfer-index * 128;
  events : transfers_of l.bytes.items ≡ take l.transfer-index l.transfers;
}
