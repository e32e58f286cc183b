-- What a caller of the tables owes.
use Rattle.std.specs.Prelude.{◌≡◌, ℕ, ◌+◌, ◌<◌, ◌≤◌, ◌^◌, false, true, not, Some, None, IsSome}
use Rattle.tb_layout.specs.declared.account.Account.{Account}
use Rattle.tb_layout.specs.declared.transfer.Transfer.{Transfer}
use Rattle.tb_layout.specs.claim.Transfer.{is_pending, is_post, is_void}
use Rattle.tb_tables.specs.claim.Facts.{Facts, account_with, transfer_with}
use Rattle.tb_tables.specs.claim.Status.{status_of, expires_at}
use Rattle.tb_tables.specs.clauses.Balances.{debits, credits}
use Rattle.tb_tables.specs.declared.status.Status.TheVariants.{Pending}

-- a transfer with this timestamp in place of its own
abbrev pub stamped : ℕ → Transfer → Transfer
stamped timestamp transfer = record transfer { timestamp = timestamp }

-- a new account has no balances of its own: they are sums over the transfers
pub record HasNoBalances (account : Account) : Type 0 where
  pub debits_pending : account.debits_pending ≡ 0
  pub debits_posted : account.debits_posted ≡ 0
  pub credits_pending : account.credits_pending ≡ 0
  pub credits_posted : account.credits_posted ≡ 0

-- a plain or pending transfer may be added: its id is new, its accounts are there, and its sums fit
pub record MayAdd (facts : Facts) (transfer : Transfer) : Type 0 where
  pub new : transfer_with facts transfer.id ≡ None
  pub not_post : is_post transfer ≡ false
  pub not_void : is_void transfer ≡ false
  pub debit_there : IsSome (account_with facts transfer.debit_account_id)
  pub credit_there : IsSome (account_with facts transfer.credit_account_id)
  pub debits_fit : debits facts transfer.debit_account_id + transfer.amount < 2 ^ 128
  pub credits_fit : credits facts transfer.credit_account_id + transfer.amount < 2 ^ 128
  pub expiry_fits : is_pending transfer ≡ true → expires_at transfer < 2 ^ 64

-- a post or a void may resolve the transfer that it names, if its id is new: that one is pending still, between the
-- same accounts, and its amount is at most the reserved one
pub record MayResolve (facts : Facts) (transfer : Transfer) : Type 0 where
  pub post_or_void : is_void transfer ≡ not (is_post transfer)
  pub not_pending : is_pending transfer ≡ false
  pub pending : Transfer
  pub named : transfer_with facts transfer.pending_id ≡ Some pending
  pub is_pending_one : is_pending pending ≡ true
  pub unresolved : status_of facts transfer.pending_id ≡ Pending
  pub same_debit : transfer.debit_account_id ≡ pending.debit_account_id
  pub same_credit : transfer.credit_account_id ≡ pending.credit_account_id
  pub at_most : transfer.amount ≤ pending.amount
