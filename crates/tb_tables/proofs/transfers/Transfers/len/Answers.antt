use Rattle.std.proofs.Common.{◌∙◌, sym}
use Rattle.tb_tables.proofs.Columns.{length-entries}
use Rattle.tb_tables.proofs.transfers.Transfers.len.Goals as goal

pub returns : goal.returns
returns c = rw (← c.self.view_is) (c.len.ensures.len ∙ sym (length-entries _ _ c.self.invariant))
