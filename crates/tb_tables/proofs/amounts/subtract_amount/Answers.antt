use Rattle.tb_tables.proofs.Words.{with_more, debits_in, credits_in}
use Rattle.tb_tables.proofs.RaisedBalances.{has_amount}
use Rattle.tb_tables.proofs.amounts.subtract_amount.Goals as goal

pub lower_at-requires : goal.lower_at-requires
lower_at-requires c =
    let r = c.requires in
    let is = rw (← r.are_at.debit_is, ← r.are_at.credit_is) at r.are in
    rw c.credits_in.ensures (has_amount r.accounts c.args.indices.credit r.are_at.credit_at (credits_in c.args.phase) c.args.amount
    (with_more (debits_in c.args.phase) r.are_at.debit_account.id c.args.amount r.sums) is)

pub lower_at-requires-2 : goal.lower_at-requires-2
lower_at-requires-2 c =
    let r = c.requires in
    let is = rw (← r.are_at.debit_is, ← r.are_at.credit_is) at r.are in
    let once = rw c.credits_in.ensures at c.lower_at.ensures in
    let left = once (with_more (debits_in c.args.phase) r.are_at.debit_account.id c.args.amount r.sums) r.accounts
    r.are_at.credit_account r.are_at.credit_at is in
    rw c.debits_in.ensures (has_amount r.accounts c.args.indices.debit r.are_at.debit_at (debits_in c.args.phase) c.args.amount r.sums left)

pub returns : goal.returns
returns c = λ sums rows debit credit are was.
    let is = rw (← are.debit_is, ← are.credit_is) at was in
    let once = rw c.credits_in.ensures at c.lower_at.ensures in
    let twice = rw c.debits_in.ensures at c.lower_at-2.ensures in
    twice sums rows are.debit_account are.debit_at
    (once (with_more (debits_in c.args.phase) are.debit_account.id c.args.amount sums) rows
    are.credit_account are.credit_at is)
