use Rattle.tb_layout.proofs.Numbers.{written}
use Rattle.tb_layout.proofs.number.write_u64.Goals as goal

pub returns-clause-front : goal.returns-clause-front
returns-clause-front c =
    written c.args.offset 8 c.args.number c.args.bytes.now c.write_u64.new.buf c.requires c.write_u64.ensures
