use Rattle.std.proofs.Common.{ap, ◌∙◌}
use Rattle.tb_tables.proofs.Words.{set_value_at}
use Rattle.tb_tables.proofs.RaisedBalances.{rows-lowered}
use Rattle.tb_tables.proofs.balance.lower_at.Goals as goal

pub returns : goal.returns
returns c = λ sums rows account at is.
    let r = c.pair_mut-account in
    ap (set_value_at c.args.accounts.now.entries c.args.index) c.lower_balance.ensures
    ∙ rows-lowered rows c.args.index at c.args.balance c.args.amount sums r.ensures.value r.ensures.unique is
