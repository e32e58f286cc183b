use Rattle.std.proofs.Common.{refl, ap, append-nil}
use Rattle.tb_machine.proofs.Words.{Accounts, Transfers, accounts_operation, transfers_operation, accounts_found}
use Rattle.tb_machine.proofs.Joined.{after_as_many, joining_group}
use Rattle.tb_machine.proofs.joining.joining_is_invisible.Goals as goal

pub returns-clause-accounts : goal.returns-clause-accounts
returns-clause-accounts c =
    joining_group accounts_operation Accounts (record
    { results = λ state events. refl; after = after_as_many accounts_operation })

pub returns-clause-transfers : goal.returns-clause-transfers
returns-clause-transfers c =
    joining_group transfers_operation Transfers (record
    { results = λ state events. refl; after = after_as_many transfers_operation })

pub returns-clause-lookup : goal.returns-clause-lookup
returns-clause-lookup c state ids = record {
  accounts = ap (accounts_found state.facts) (append-nil ids);
  state_after = refl;
}
