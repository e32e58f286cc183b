-- The indices of accounts and transfers in the order of making.
use Rattle.std.specs.Prelude.{◌≡◌, ℕ, List, Option, Some, None, slice_get}
use Rattle.tb_tables.specs.claim.Facts.{Facts, account_with, transfer_with}

-- the index of what was found among others, if something was found
abbrev pub IsIndexAmong : {X : Type 0} → List X → Option X → Option ℕ → Type 0
IsIndexAmong {X} others found None = found ≡ None
IsIndexAmong {X} others found (Some index) = (one : X) × (slice_get others index ≡ Some one) × (found ≡ Some one)

-- the index of the account, or the transfer, with this id, if it is there
abbrev pub IsIndexOf : Facts → ℕ → Option ℕ → Type 0
IsIndexOf facts id = IsIndexAmong facts.accounts (account_with facts id)

abbrev pub IsIndexOfTransfer : Facts → ℕ → Option ℕ → Type 0
IsIndexOfTransfer facts id = IsIndexAmong facts.transfers (transfer_with facts id)
