-- Balances, as sums.
use Rattle.std.specs.Prelude.{ℕ, Bool, not, ◌&&◌, ◌==◌, filter, sum_by, Option}
use Rattle.std.specs.Option.{option_map}
use Rattle.tb_layout.specs.declared.account.Account.{Account}
use Rattle.tb_layout.specs.declared.transfer.Transfer.{Transfer}
use Rattle.tb_layout.specs.claim.Transfer.{is_pending, is_void}
use Rattle.tb_tables.specs.claim.Facts.{Facts, account_with}
use Rattle.tb_tables.specs.claim.Status.{is_reserving}

abbrev pub amount_of : (Transfer → Bool) → Facts → ℕ
amount_of test facts = sum_by (λ transfer. transfer.amount) (filter test facts.transfers)

-- a plain transfer or a post
abbrev pub is_posting : Transfer → Bool
is_posting transfer = not (is_pending transfer) && not (is_void transfer)

abbrev pub with_balances : Facts → Account → Account
with_balances facts account =
    record account {
      debits_pending =
          amount_of (λ transfer. is_reserving facts transfer && (transfer.debit_account_id == account.id)) facts;
      debits_posted = amount_of (λ transfer. is_posting transfer && (transfer.debit_account_id == account.id)) facts;
      credits_pending =
          amount_of (λ transfer. is_reserving facts transfer && (transfer.credit_account_id == account.id)) facts;
      credits_posted = amount_of (λ transfer. is_posting transfer && (transfer.credit_account_id == account.id)) facts;
    }

abbrev pub balanced_account : Facts → ℕ → Option Account
balanced_account facts id = option_map (with_balances facts) (account_with facts id)
