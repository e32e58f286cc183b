use Rattle.tb_tables.proofs.LookUps.{transfer-indexed_at}
use Rattle.tb_tables.proofs.tables.Tables.transfer_index.Goals as goal

pub returns : goal.returns
returns c =
    rw (← c.self.view_is) (transfer-indexed_at c.self.invariant.consistent.hold c.args.id c.index_of.result
    c.index_of.ensures)
