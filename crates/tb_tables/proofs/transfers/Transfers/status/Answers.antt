use Rattle.std.proofs.Common.{◌∙◌, sym, arith}
use Rattle.tb_tables.proofs.Columns.{status-found, no-status-found}
use Rattle.tb_tables.proofs.transfers.Transfers.status.Goals as goal

pub returns-in_err-index : goal.returns-in_err-index
returns-in_err-index c =
    let found = no-status-found c.args.id c.self.inside.rows.entries c.self.inside.statuses.items c.self.invariant in
    let arm = c.in_err-index in
    rw (← c.self.view_is) (grind (arith, found, arm.ensures.index, arm.is, arm.was, c.from_residual.ensures))

pub returns : goal.returns
returns c =
    rw (← c.self.view_is) (c.status.ensures ∙ sym (status-found c.args.id c.self.inside.rows.entries c.self.inside.statuses.items
    c.in_ok-index.index c.self.invariant (sym c.in_ok-index.ensures.index) c.index.ensures))
