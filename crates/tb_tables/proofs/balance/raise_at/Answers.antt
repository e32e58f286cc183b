use Rattle.std.proofs.Common.{ap, ◌∙◌}
use Rattle.tb_tables.proofs.Words.{set_value_at}
use Rattle.tb_tables.proofs.RaisedBalances.{rows-raised}
use Rattle.tb_tables.proofs.balance.raise_at.Goals as goal

pub returns : goal.returns
returns c = λ sums rows account at is.
    let r = c.pair_mut-account in
    ap (set_value_at c.args.accounts.now.entries c.args.index) c.raise_balance.ensures
    ∙ rows-raised rows c.args.index at c.args.balance c.args.amount sums r.ensures.value r.ensures.unique is
