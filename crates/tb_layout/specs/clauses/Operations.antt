-- The operations by their numbers and names.
use Rattle.std.specs.Prelude.{ℕ, ◌==◌, List, Option, Some, None, codes, if◌then◌else◌}
use Rattle.tb_layout.specs.claim.Events.{create_accounts, create_transfers}
use Rattle.tb_layout.specs.claim.EventCounts.{lookup_accounts}
use Rattle.tb_layout.specs.declared.operation.Operation.{Operation}
use Rattle.tb_layout.specs.declared.operation.Operation.TheVariants.{CreateAccounts, CreateTransfers, LookupAccounts}

abbrev pub number_of : Operation → ℕ
number_of CreateAccounts = create_accounts
number_of CreateTransfers = create_transfers
number_of LookupAccounts = lookup_accounts

abbrev pub operation_of : ℕ → Option Operation
operation_of number =
    if number == create_accounts then Some CreateAccounts
    else if number == create_transfers then Some CreateTransfers
    else if number == lookup_accounts then Some LookupAccounts
    else None

abbrev pub name_of : Operation → List ℕ
name_of CreateAccounts = codes "create_accounts"
name_of CreateTransfers = codes "create_transfers"
name_of LookupAccounts = codes "lookup_accounts"
