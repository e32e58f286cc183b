use Rattle.std.proofs.Common.{◌≡◌, ◌≤◌, ◌++◌, drop, map, vec_len}
use Rattle.tb_machine.proofs.Words.{vec_capacity, accounts_found}
use Rattle.tb_layout.specs.claim.Bytes.{little_endian}
use Rattle.tb_machine.proofs.lookup.look_up.Given as goal

abbrev pub invariant-loop-chunk : goal.invariant-loop-chunk
invariant-loop-chunk l = record {
  found : l.out.items ++ accounts_found l.tables.now (map little_endian (drop l.chunk-index l.chunks))
      ≡ accounts_found l.tables.now (map little_endian l.chunks);
  len : vec_len l.out ≤ l.chunk-index;
  capacity : vec_capacity l.out ≡ vec_capacity l.fn.out;
}
