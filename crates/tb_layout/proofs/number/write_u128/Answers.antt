use Rattle.tb_layout.proofs.Numbers.{halves}
use Rattle.tb_layout.proofs.number.write_u128.Goals as goal

pub returns-clause-front : goal.returns-clause-front
returns-clause-front c =
    halves c.args.offset c.args.number c.args.bytes.now c.write_u64.new.bytes c.write_u64-2.new.bytes
    c.write_u64.ensures.front c.write_u64-2.ensures.front
