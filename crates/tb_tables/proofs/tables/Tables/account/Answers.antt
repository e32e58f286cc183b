use Rattle.std.proofs.Common.{◌∙◌}
use Rattle.tb_tables.proofs.LookUps.{account-found}
use Rattle.tb_tables.proofs.tables.Tables.account.Goals as goal

pub returns : goal.returns
returns c =
    rw (← c.self.view_is) (c.copied.ensures ∙ c.get.ensures.value
    ∙ account-found c.self.invariant.consistent.hold c.args.id)
