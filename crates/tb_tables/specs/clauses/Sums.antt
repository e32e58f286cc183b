-- The balances of all accounts.
use Rattle.std.specs.Prelude.{◌≡◌, ℕ, Bool, true, false, ◌+◌, ◌-◌, ◌^◌, ◌<◌, ◌≤◌, ◌==◌, List, map, slice_get, Some, if◌then◌else◌}
use Rattle.tb_layout.specs.declared.account.Account.{Account}
use Rattle.tb_layout.specs.declared.transfer.Transfer.{Transfer}
use Rattle.tb_layout.specs.claim.Transfer.{is_pending}
use Rattle.tb_tables.specs.claim.Facts.{Facts}
use Rattle.tb_tables.specs.clauses.Balances.{debits_pending as debits_pending_of, debits_posted as debits_posted_of, credits_pending as credits_pending_of, credits_posted as credits_posted_of}
use Rattle.tb_tables.specs.declared.amounts.Phase.{Phase}
use Rattle.tb_tables.specs.declared.amounts.Phase.TheVariants.{Pending, Posted}
use Rattle.tb_tables.specs.declared.balance.Balance.{Balance}
use Rattle.tb_tables.specs.declared.indices.Indices.{Indices}
use Rattle.tb_tables.specs.declared.balance.Balance.TheVariants.{DebitsPending, DebitsPosted, CreditsPending, CreditsPosted}

-- each of the four balances, by the id of the account
pub record Sums : Type 0 where
  pub debits_pending : ℕ → ℕ
  pub debits_posted : ℕ → ℕ
  pub credits_pending : ℕ → ℕ
  pub credits_posted : ℕ → ℕ

abbrev pub sums_of : Facts → Sums
sums_of facts =
    record {
      debits_pending = debits_pending_of facts;
      debits_posted = debits_posted_of facts;
      credits_pending = credits_pending_of facts;
      credits_posted = credits_posted_of facts;
    }

-- an amount more at one id
abbrev pub more_at : ℕ → ℕ → (ℕ → ℕ) → ℕ → ℕ
more_at id amount sum other = sum other + (if id == other then amount else 0)

-- one balance of one account raised
abbrev pub with_more : Balance → ℕ → ℕ → Sums → Sums
with_more DebitsPending id amount sums = record sums { debits_pending = more_at id amount sums.debits_pending }
with_more DebitsPosted id amount sums = record sums { debits_posted = more_at id amount sums.debits_posted }
with_more CreditsPending id amount sums = record sums { credits_pending = more_at id amount sums.credits_pending }
with_more CreditsPosted id amount sums = record sums { credits_posted = more_at id amount sums.credits_posted }

abbrev pub raise_balance : Balance → ℕ → Account → Account
raise_balance DebitsPending amount account = record account { debits_pending = account.debits_pending + amount }
raise_balance DebitsPosted amount account = record account { debits_posted = account.debits_posted + amount }
raise_balance CreditsPending amount account = record account { credits_pending = account.credits_pending + amount }
raise_balance CreditsPosted amount account = record account { credits_posted = account.credits_posted + amount }

abbrev pub lower_balance : Balance → ℕ → Account → Account
lower_balance DebitsPending amount account = record account { debits_pending = account.debits_pending - amount }
lower_balance DebitsPosted amount account = record account { debits_posted = account.debits_posted - amount }
lower_balance CreditsPending amount account = record account { credits_pending = account.credits_pending - amount }
lower_balance CreditsPosted amount account = record account { credits_posted = account.credits_posted - amount }

abbrev pub balance_of : Balance → Account → ℕ
balance_of DebitsPending account = account.debits_pending
balance_of DebitsPosted account = account.debits_posted
balance_of CreditsPending account = account.credits_pending
balance_of CreditsPosted account = account.credits_posted

-- an account with its balances
abbrev pub with_sums : Sums → Account → Account
with_sums sums account =
    record account {
      debits_pending = sums.debits_pending account.id;
      debits_posted = sums.debits_posted account.id;
      credits_pending = sums.credits_pending account.id;
      credits_posted = sums.credits_posted account.id;
    }

-- the accounts as they are stored, each under its id
abbrev pub account_rows : Sums → List Account → List (ℕ × Account)
account_rows sums accounts = map (λ account. (account.id, with_sums sums account)) accounts

-- which balances an amount goes to: what is pending, or what is posted
abbrev pub phase_of : Transfer → Phase
phase_of transfer = if is_pending transfer then Pending else Posted

abbrev pub debits_in : Phase → Balance
debits_in Pending = DebitsPending
debits_in Posted = DebitsPosted

abbrev pub credits_in : Phase → Balance
credits_in Pending = CreditsPending
credits_in Posted = CreditsPosted

-- an amount more between two accounts
abbrev pub with_amount : Phase → ℕ → ℕ → ℕ → Sums → Sums
with_amount phase debit credit amount sums =
    with_more (credits_in phase) credit amount (with_more (debits_in phase) debit amount sums)

abbrev pub posted_if : Bool → ℕ → ℕ → ℕ → Sums → Sums
posted_if true debit credit amount sums = with_amount Posted debit credit amount sums
posted_if false debit credit amount sums = sums

-- an index has an account whose balance has room for an amount, or contains it
pub record HasRoom (rows : List (ℕ × Account)) (index : ℕ) (balance : Balance) (amount : ℕ) : Type 0 where
  pub row : ℕ × Account
  pub there : slice_get rows index ≡ Some row
  pub fits : balance_of balance row.1 + amount < 2 ^ 128

pub record HasAmount (rows : List (ℕ × Account)) (index : ℕ) (balance : Balance) (amount : ℕ) : Type 0 where
  pub row : ℕ × Account
  pub there : slice_get rows index ≡ Some row
  pub has : amount ≤ balance_of balance row.1

-- the accounts at two indices
pub record AreAt (accounts : List Account) (indices : Indices) (debit credit : ℕ) : Type 0 where
  pub debit_account : Account
  pub credit_account : Account
  pub debit_at : slice_get accounts indices.debit ≡ Some debit_account
  pub credit_at : slice_get accounts indices.credit ≡ Some credit_account
  pub debit_is : debit_account.id ≡ debit
  pub credit_is : credit_account.id ≡ credit

-- an amount can be added between the accounts at two indices, or taken out again
pub record CanAdd (rows : List (ℕ × Account)) (indices : Indices) (phase : Phase) (amount : ℕ) : Type 0 where
  pub sums : Sums
  pub accounts : List Account
  pub debit : ℕ
  pub credit : ℕ
  pub are_at : AreAt accounts indices debit credit
  pub are : rows ≡ account_rows sums accounts
  pub debit_fits : balance_of (debits_in phase) (with_sums sums are_at.debit_account) + amount < 2 ^ 128
  pub credit_fits : balance_of (credits_in phase) (with_sums sums are_at.credit_account) + amount < 2 ^ 128

pub record CanTake (rows : List (ℕ × Account)) (indices : Indices) (phase : Phase) (amount : ℕ) : Type 0 where
  pub sums : Sums
  pub accounts : List Account
  pub debit : ℕ
  pub credit : ℕ
  pub are_at : AreAt accounts indices debit credit
  pub are : rows ≡ account_rows (with_amount phase debit credit amount sums) accounts
