use Rattle.std.proofs.Common.{arith}
use Rattle.tb_tables.proofs.Columns.{transfer-at}
use Rattle.tb_tables.proofs.transfers.Transfers.transfer_at.Goals as goal

pub returns-in_err-id : goal.returns-in_err-id
returns-in_err-id c =
    let at = transfer-at _ _ c.args.index c.self.invariant in
    let none = c.from_residual.ensures in
    rw (← c.self.view_is) (grind (arith, at, c.in_err-id.ensures.entry, c.in_err-id.is, none))

pub returns : goal.returns
returns c =
    let at = transfer-at _ _ c.args.index c.self.invariant in
    rw (← c.self.view_is) (grind (arith, at, c.in_ok-id.ensures.entry, c.transfer.ensures))
