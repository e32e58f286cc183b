use Rattle.std.proofs.Common.{◌∙◌, ap, sym, nat_eq, position}
use Rattle.tb_tables.proofs.Columns.{keys-entries}
use Rattle.tb_tables.proofs.transfers.Transfers.index_of.Goals as goal

pub returns : goal.returns
returns c =
    rw (← c.self.view_is) (c.get_index_of.ensures.index
    ∙ ap (position (nat_eq c.args.id)) (sym (keys-entries _ _ c.self.invariant)))
