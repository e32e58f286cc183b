use Rattle.tb_tables.proofs.Words.{contents_in}
use Rattle.tb_tables.proofs.UndoList.{account-back, failed-back, can-give, transfer-back}
use Rattle.tb_tables.proofs.tables.Tables.undo_last.Goals as goal

pub invariant_of-self : goal.invariant_of-self
invariant_of-self c =
    rw c.pop_account.ensures (account-back c.pop.new.self.items (contents_in c.self.inside)
    (rw (c.in-Some.ensures.items, c.in-Account.is) at c.self.invariant)).0

pub returns-in-Account : goal.returns-in-Account
returns-in-Account c =
    rw (← c.self.view_is, c.in-Some.ensures.items, c.in-Account.is, c.pop_account.ensures)
    (account-back c.pop.new.self.items (contents_in c.self.inside)
    (rw (c.in-Some.ensures.items, c.in-Account.is) at c.self.invariant)).1

pub undo_transfer-requires : goal.undo_transfer-requires
undo_transfer-requires c =
    let can = can-give c.pop.new.self.items (contents_in c.self.inside) c.in-Transfer.indices
    (rw (c.in-Some.ensures.items, c.in-Transfer.is) at c.self.invariant) in
    (_, can.transfer, can.stored)

pub invariant_of-self-in-Transfer : goal.invariant_of-self-in-Transfer
invariant_of-self-in-Transfer c =
    let old = contents_in c.self.inside in
    let kept = rw (c.in-Some.ensures.items, c.in-Transfer.is) at c.self.invariant in
    let can = can-give c.pop.new.self.items old c.in-Transfer.indices kept in
    (transfer-back c.pop.new.self.items old c.in-Transfer.indices kept (c.undo_transfer.ensures.maps _ can.transfer can.stored)
    (c.undo_transfer.ensures.pairs _ can.transfer can.stored)).0

pub returns-in-Transfer : goal.returns-in-Transfer
returns-in-Transfer c =
    let old = contents_in c.self.inside in
    let kept = rw (c.in-Some.ensures.items, c.in-Transfer.is) at c.self.invariant in
    let can = can-give c.pop.new.self.items old c.in-Transfer.indices kept in
    rw (← c.self.view_is, c.in-Some.ensures.items, c.in-Transfer.is)
    (transfer-back c.pop.new.self.items old c.in-Transfer.indices kept (c.undo_transfer.ensures.maps _ can.transfer can.stored)
    (c.undo_transfer.ensures.pairs _ can.transfer can.stored)).1

pub invariant_of-self-in-Failed : goal.invariant_of-self-in-Failed
invariant_of-self-in-Failed c =
    rw c.pop_failed.ensures (failed-back c.pop.new.self.items (contents_in c.self.inside)
    (rw (c.in-Some.ensures.items, c.in-Failed.is) at c.self.invariant)).0

pub returns-in-Failed : goal.returns-in-Failed
returns-in-Failed c =
    rw (← c.self.view_is, c.in-Some.ensures.items, c.in-Failed.is, c.pop_failed.ensures)
    (failed-back c.pop.new.self.items (contents_in c.self.inside)
    (rw (c.in-Some.ensures.items, c.in-Failed.is) at c.self.invariant)).1
