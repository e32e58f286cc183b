-- What the state machine knows.
use Rattle.std.specs.Prelude.{ℕ, ◌==◌, Bool, List, [], ◌∷◌, ◌++◌, Option, find}
use Rattle.std.specs.List.{list_any}
use Rattle.tb_layout.specs.declared.account.Account.{Account}
use Rattle.tb_layout.specs.declared.transfer.Transfer.{Transfer}

-- In order of adding, a post or a void with its resolved fields. `expired` are ids of transfers, in their order, `failed`
-- the ids that code 68 refuses.
pub record Facts : Type 0 where
  pub accounts : List Account
  pub transfers : List Transfer
  pub expired : List ℕ
  pub failed : List ℕ

abbrev pub no_facts : Facts
no_facts = record { accounts = []; transfers = []; expired = []; failed = [] }

abbrev pub account_with : Facts → ℕ → Option Account
account_with facts id = find (λ account. account.id == id) facts.accounts

abbrev pub transfer_with : Facts → ℕ → Option Transfer
transfer_with facts id = find (λ transfer. transfer.id == id) facts.transfers

abbrev pub is_expired : Facts → ℕ → Bool
is_expired facts id = list_any (λ expired. expired == id) facts.expired

abbrev pub is_failed : Facts → ℕ → Bool
is_failed facts id = list_any (λ failed. failed == id) facts.failed

abbrev pub add_account : Facts → Account → Facts
add_account facts account = record facts { accounts = facts.accounts ++ account ∷ [] }

abbrev pub add_transfer : Facts → Transfer → Facts
add_transfer facts transfer = record facts { transfers = facts.transfers ++ transfer ∷ [] }

abbrev pub add_failed : Facts → ℕ → Facts
add_failed facts id = record facts { failed = facts.failed ++ id ∷ [] }
