use Rattle.std.proofs.Common.{arith}
use Rattle.tb_tables.proofs.Columns.{transfer-found}
use Rattle.tb_tables.proofs.transfers.Transfers.transfer.Goals as goal

pub returns-in_err-stored : goal.returns-in_err-stored
returns-in_err-stored c =
    let found = transfer-found c.args.id _ _ c.self.invariant in
    let none = c.from_residual.ensures in
    rw (← c.self.view_is) (grind (arith, found, c.in_err-stored.ensures.value, c.in_err-stored.is, none))

pub returns : goal.returns
returns c =
    let found = transfer-found c.args.id _ _ c.self.invariant in
    rw (← c.self.view_is) (grind (arith, found, c.in_ok-stored.ensures.value, c.transfer.ensures))
