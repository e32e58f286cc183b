use Rattle.std.proofs.Common.{◌∙◌, ◌<◌, ap, arith, length}
use Rattle.tb_tables.proofs.Columns.{popped-entry, length-entries}
use Rattle.tb_tables.proofs.transfers.Transfers.pop.Goals as goal

pub returns : goal.returns
returns c = λ id row others is.
    let rows = c.self.inside.rows.entries in
    let statuses = c.self.inside.statuses.items in
    let some : 0 < length rows = omega (arith, c.requires, ap length c.self.view_is, length-entries rows statuses c.self.invariant) in
    let off = popped-entry c.pop-2.new.self.entries c.pop.new.self.items c.self.invariant others (id, row)
    (c.self.view_is ∙ is) c.pop-2.result c.pop.result c.pop-2.ensures.entries c.pop.ensures.items
    (c.pop-2.ensures.found.1 some)
    (c.pop.ensures.variant.1 (omega (arith, some, c.self.invariant, c.self.inside.statuses.ok.0))) in
    (grind (arith, off.0, c.unwrap-id.ensures, c.transfer.ensures), off.1)
