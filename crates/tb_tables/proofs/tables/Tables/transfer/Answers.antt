use Rattle.std.proofs.Common.{arith}
use Rattle.tb_tables.proofs.LookUps.{row-found}
use Rattle.tb_tables.proofs.tables.Tables.transfer.Goals as goal

pub returns : goal.returns
returns c =
    rw (← c.self.view_is) (grind (arith, row-found c.self.invariant.consistent.hold c.args.id, c.transfer.ensures))
