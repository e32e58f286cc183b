use Rattle.std.proofs.Common.{◌∙◌, sym}
use Rattle.tb_tables.proofs.MapRows.{key-of-position}
use Rattle.tb_tables.proofs.entries.index_of.Goals as goal

pub returns : goal.returns
returns c =
    key-of-position c.args.id c.args.accounts.now.entries _ (sym c.get_index_of.ensures.index ∙ c.unwrap.ensures)
