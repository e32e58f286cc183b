-- The accounts as they are printed.
use Rattle.std.specs.Prelude.{List, map}
use Rattle.tb_layout.specs.declared.account.Account.{Account}
use Rattle.tb_tables.specs.claim.Facts.{Facts}
use Rattle.tb_tables.specs.claim.Balances.{with_balances}

-- all accounts in order of making, with their balances
abbrev pub balanced_accounts : Facts → List Account
balanced_accounts facts = map (with_balances facts) facts.accounts
