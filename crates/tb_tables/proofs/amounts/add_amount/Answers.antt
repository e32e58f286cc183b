use Rattle.std.proofs.Common.{sym, subst, ◌+◌, ◌<◌, ◌^◌}
use Rattle.tb_tables.proofs.Words.{with_more, debits_in}
use Rattle.tb_tables.proofs.RaisedBalances.{has_room, credits-kept}
use Rattle.tb_tables.proofs.amounts.add_amount.Goals as goal

pub raise_at-requires : goal.raise_at-requires
raise_at-requires c =
    let r = c.requires in
    rw c.debits_in.ensures (has_room r.accounts c.args.indices.debit r.are_at.debit_at (debits_in c.args.phase) c.args.amount r.sums r.are
    r.debit_fits)

pub raise_at-requires-2 : goal.raise_at-requires-2
raise_at-requires-2 c =
    let r = c.requires in
    let raised_once = rw c.debits_in.ensures at (c.raise_at.ensures r.sums r.accounts r.are_at.debit_account
    r.are_at.debit_at r.are) in
    let fits = subst (λ n. n + c.args.amount < 2 ^ 128)
    (sym (credits-kept c.args.phase r.are_at.debit_account.id c.args.amount r.sums r.are_at.credit_account))
    r.credit_fits in
    rw c.credits_in.ensures (has_room r.accounts c.args.indices.credit r.are_at.credit_at _ c.args.amount
    (with_more (debits_in c.args.phase) r.are_at.debit_account.id c.args.amount r.sums) raised_once fits)

pub returns : goal.returns
returns c = λ sums rows debit credit are is.
    let once = rw c.debits_in.ensures at (c.raise_at.ensures sums rows are.debit_account are.debit_at is) in
    let twice = rw c.credits_in.ensures at (c.raise_at-2.ensures _ rows are.credit_account are.credit_at once) in
    rw (are.debit_is, are.credit_is) at twice
