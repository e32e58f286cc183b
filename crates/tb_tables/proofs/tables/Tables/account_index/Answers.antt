use Rattle.tb_tables.proofs.LookUps.{account-indexed_at}
use Rattle.tb_tables.proofs.tables.Tables.account_index.Goals as goal

pub returns : goal.returns
returns c =
    rw (← c.self.view_is) (account-indexed_at c.self.invariant.consistent.hold c.args.id c.get_index_of.result
    c.get_index_of.ensures.index)
