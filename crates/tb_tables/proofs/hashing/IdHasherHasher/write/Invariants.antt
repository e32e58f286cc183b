use Rattle.std.proofs.Common.{◌≡◌, drop, fold, map}
use Rattle.tb_tables.proofs.Words.{little_endian, with_id}
use Rattle.tb_tables.proofs.hashing.IdHasherHasher.write.Given as goal

abbrev pub invariant-loop-chunk : goal.invariant-loop-chunk
invariant-loop-chunk l =
    fold with_id l.self (map little_endian (drop l.chunk-index l.chunks))
    ≡ fold with_id l.fn.self (map little_endian l.chunks)
