use Rattle.tb_tables.proofs.LookUps.{account-there, are-at}
use Rattle.tb_tables.proofs.tables.Tables.add_transfer.Goals as goal

pub indices_of-indices-requires : goal.indices_of-indices-requires
indices_of-indices-requires c =
    let may = rw (← c.self.view_is) at c.requires in
    let hold = c.self.invariant.consistent.hold in
    record {
      debit = account-there hold c.args.transfer.debit_account_id may.debit_there;
      credit = account-there hold c.args.transfer.credit_account_id may.credit_there;
    }

pub store-requires-clause-at : goal.store-requires-clause-at
store-requires-clause-at c =
    let found = c.indices_of-indices.ensures in
    rw (← c.self.view_is) (are-at c.self.invariant.consistent.hold c.args.transfer _ found.debit found.credit)

pub store-requires-clause-may : goal.store-requires-clause-may
store-requires-clause-may c = λ _. rw c.indices_of-indices.ensures.pending c.requires
