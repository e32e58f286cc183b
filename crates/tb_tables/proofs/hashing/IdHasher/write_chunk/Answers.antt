use Rattle.std.proofs.Common.{◌∙◌, ap, arith}
use Rattle.tb_tables.proofs.Words.{take_all, little_endian, with_id}
use Rattle.tb_tables.proofs.hashing.IdHasher.write_chunk.Goals as goal

pub returns : goal.returns
returns c =
    c.write_u128.ensures.id
    ∙ ap (with_id c.args.self.now) (c.read_id.ensures ∙ ap little_endian (take_all 16 c.args.chunk.now (omega arith)))
