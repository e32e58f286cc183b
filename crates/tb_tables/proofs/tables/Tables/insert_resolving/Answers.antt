use Rattle.tb_tables.proofs.LookUps.{debit-there, credit-there, are-at, may-post}
use Rattle.tb_tables.proofs.tables.Tables.insert_resolving.Goals as goal

pub indices_of-indices-requires : goal.indices_of-indices-requires
indices_of-indices-requires c =
    let may = rw (← c.self.view_is) at c.requires.may in
    let hold = c.self.invariant.consistent.hold in
    let grounded = c.self.invariant.consistent.sound.grounded in
    record {
      debit = debit-there hold grounded c.args.transfer.now may;
      credit = credit-there hold grounded c.args.transfer.now may;
    }

pub store-requires-clause-at : goal.store-requires-clause-at
store-requires-clause-at c =
    let found = c.indices_of-indices.ensures in
    rw (← c.self.view_is) (are-at c.self.invariant.consistent.hold c.args.transfer.now _ found.debit found.credit)

pub store-requires-clause-may : goal.store-requires-clause-may
store-requires-clause-may c =
    rw c.indices_of-indices.ensures.pending (may-post c.requires.may c.requires.pending)
