use Rattle.std.proofs.Common.{rules}
use Rattle.tb_tables.proofs.LookUps.{account-at}
use Rattle.tb_tables.proofs.tables.Tables.account_at.Goals as goal

pub returns : goal.returns
returns c =
    rw (← c.self.view_is) (account-at c.self.invariant.consistent.hold c.args.index
    (c.in_ok-account.field-0-0.now, c.in_ok-account.account.now) (search rules))
