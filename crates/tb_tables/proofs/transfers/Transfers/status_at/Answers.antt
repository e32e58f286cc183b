use Rattle.std.proofs.Common.{◌∙◌, ap, sym, arith, option_map}
use Rattle.tb_tables.proofs.Words.{status_found}
use Rattle.tb_tables.proofs.Columns.{status-at, none-at}
use Rattle.tb_tables.proofs.transfers.Transfers.status_at.Goals as goal

pub returns-then-index-len : goal.returns-then-index-len
returns-then-index-len c =
    let statuses_fit = c.self.inside.statuses.ok.0 in
    rw (← c.self.view_is) (c.status.ensures ∙ sym (status-at c.self.inside.rows.entries c.self.inside.statuses.items
    c.args.index c.self.invariant
    (omega (arith, c.len.ensures, c.if-index-len.true, c.self.invariant, statuses_fit)) c.index.ensures))

pub returns-else-index-len : goal.returns-else-index-len
returns-else-index-len c =
    rw (← c.self.view_is) (sym (ap (λ found. status_found (option_map (λ (entry : _ × _). entry.1) found))
    (none-at c.self.inside.rows.entries c.self.inside.statuses.items c.args.index c.self.invariant
    (omega (arith, c.len.ensures, c.if-index-len.false, c.self.inside.statuses.ok.0)))))
