-- Each result has a row.
use Rattle.std.proofs.Common.{◌≡◌, ℕ, ◌+◌, ◌<◌, List, map, drop, length, true, refl, add-one, rules}
use Rattle.std.specs.Borrow.{Bor}
use Rattle.std.specs.Prelude.{is_some, get_or}
use Rattle.std.proofs.Math.Seq.{drop-cons}
use Rattle.tb_layout.specs.clauses.Codes.{first_with, read_row}
use Rattle.tb_layout.specs.claim.AccountCode as account
use Rattle.tb_layout.specs.clauses.AccountCodes as accounts
use Rattle.tb_layout.specs.declared.account_code.AccountCode.{AccountCode}
use Rattle.tb_layout.specs.declared.account_code.AccountCode.TheVariants as account_code
use Rattle.tb_layout.specs.claim.TransferCode as transfer
use Rattle.tb_layout.specs.clauses.TransferCodes as transfers
use Rattle.tb_layout.specs.declared.transfer_code.TransferCode.{TransferCode}
use Rattle.tb_layout.specs.declared.transfer_code.TransferCode.TheVariants as transfer_code

pub has_account_row : (code : AccountCode)
    → is_some (first_with account.number_of (account.number_of code) accounts.rows) ≡ true
has_account_row account_code.Ok = refl
has_account_row code = refl

pub has_transfer_row : (code : TransferCode)
    → is_some (first_with transfer.number_of (transfer.number_of code) transfers.rows) ≡ true
has_transfer_row transfer_code.Ok = refl
has_transfer_row code = refl

-- the rows from an index on, of which the first has another number
pub passed_over : {Code : Type 0} (number_of : Code → ℕ) (number : ℕ) (rows : List (Code × Bor (List ℕ))) (i : ℕ)
    (row : Code × Bor (List ℕ)) → i < length rows → row ≡ get_or rows i row → (number_of row.0 ≡ number → ⊥)
    → first_with number_of number (map read_row (drop i rows))
    ≡ first_with number_of number (map read_row (drop (i + 1) rows))
passed_over number_of number rows i row within is other =
    rw (drop-cons rows i row within, add-one, ← is) (search (rules, other))
