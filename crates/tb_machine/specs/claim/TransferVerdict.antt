-- The verdict on a transfer.
use Rattle.std.specs.Prelude.{ℕ, ◌+◌, Bool, true, not, ◌&&◌, ◌||◌, ◌==◌, nat_lt, List, [], ◌∷◌, ◌++◌, Option, Some, None, if◌then◌else◌}
use Rattle.tb_layout.specs.declared.account.Account.{Account}
use Rattle.tb_layout.specs.declared.transfer.Transfer.{Transfer}
use Rattle.tb_layout.specs.declared.transfer_code.TransferCode.{TransferCode}
use Rattle.tb_layout.specs.declared.transfer_code.TransferCode.TheVariants.{TimestampMustBeZero, ReservedFlag, IdMustNotBeZero, IdMustNotBeIntMax, ExistsWithDifferentFlags, ExistsWithDifferentPendingId, ExistsWithDifferentDebitAccountId, ExistsWithDifferentCreditAccountId, ExistsWithDifferentAmount, ExistsWithDifferentUserData128, ExistsWithDifferentUserData64, ExistsWithDifferentUserData32, ExistsWithDifferentTimeout, ExistsWithDifferentLedger, ExistsWithDifferentCode, Exists, IdAlreadyFailed, FlagsAreMutuallyExclusive, PendingIdMustNotBeZero, PendingIdMustNotBeIntMax, PendingIdMustBeDifferent, TimeoutReservedForPendingTransfer, PendingTransferNotFound, PendingTransferNotPending, PendingTransferHasDifferentDebitAccountId, PendingTransferHasDifferentCreditAccountId, PendingTransferHasDifferentLedger, PendingTransferHasDifferentCode, ExceedsPendingTransferAmount, PendingTransferHasDifferentAmount, PendingTransferAlreadyPosted, PendingTransferAlreadyVoided, PendingTransferExpired, DebitAccountIdMustNotBeZero, DebitAccountIdMustNotBeIntMax, CreditAccountIdMustNotBeZero, CreditAccountIdMustNotBeIntMax, AccountsMustBeDifferent, PendingIdMustBeZero, LedgerMustNotBeZero, CodeMustNotBeZero, DebitAccountNotFound, CreditAccountNotFound, AccountsMustHaveTheSameLedger, TransferMustHaveTheSameLedgerAsAccounts, OverflowsDebitsPending, OverflowsCreditsPending, OverflowsDebitsPosted, OverflowsCreditsPosted, OverflowsDebits, OverflowsCredits, OverflowsTimeout, ExceedsCredits, ExceedsDebits, Ok}
use Rattle.tb_layout.specs.claim.Account.{debits_must_not_exceed_credits, credits_must_not_exceed_debits}
use Rattle.tb_layout.specs.claim.Bytes.{has_reserved_flag}
use Rattle.tb_layout.specs.claim.Transfer.{is_pending, is_post, is_void, is_resolving}
use Rattle.tb_tables.specs.claim.Facts.{Facts, transfer_with, is_expired, is_failed}
use Rattle.tb_tables.specs.claim.Balances.{balanced_account}
use Rattle.tb_tables.specs.claim.Status.{is_named_by, is_due, expires_at}
use Rattle.tb_machine.specs.claim.Checks.{u128_max, first_row, differ}
use Rattle.tb_layout.specs.claim.Limits.{clock_max}

-- ---- fields that a post or a void leaves out

abbrev pub unless_zero : ℕ → ℕ → ℕ
unless_zero field otherwise = if field == 0 then otherwise else field

abbrev pub means_whole_amount : Transfer → Bool
means_whole_amount event = (is_post event && (event.amount == u128_max)) || (is_void event && (event.amount == 0))

abbrev pub resolved_transfer : Transfer → Transfer → Transfer
resolved_transfer pending event =
    record event {
      debit_account_id = unless_zero event.debit_account_id pending.debit_account_id;
      credit_account_id = unless_zero event.credit_account_id pending.credit_account_id;
      amount = if means_whole_amount event then pending.amount else event.amount;
      user_data_128 = unless_zero event.user_data_128 pending.user_data_128;
      user_data_64 = unless_zero event.user_data_64 pending.user_data_64;
      user_data_32 = unless_zero event.user_data_32 pending.user_data_32;
      ledger = unless_zero event.ledger pending.ledger;
      code = unless_zero event.code pending.code;
    }

abbrev pub resolved_transfer_of : Option Transfer → Transfer → Transfer
resolved_transfer_of (Some pending) event = if is_resolving event then resolved_transfer pending event else event
resolved_transfer_of None event = event

abbrev pub stored_transfer : Facts → ℕ → Transfer → Transfer
stored_transfer facts timestamp event =
    record (resolved_transfer_of (transfer_with facts event.pending_id) event) { timestamp = timestamp }

-- ---- any event

abbrev pub event_checks : Transfer → List (Bool × TransferCode)
event_checks event =
    (differ event.timestamp 0, TimestampMustBeZero) ∷
    (has_reserved_flag event.flags, ReservedFlag) ∷
    (event.id == 0, IdMustNotBeZero) ∷
    (event.id == u128_max, IdMustNotBeIntMax) ∷
    []

-- against the transfer with its id; `event` is resolved
abbrev pub stored_checks : Transfer → Transfer → List (Bool × TransferCode)
stored_checks stored event =
    (differ event.flags stored.flags, ExistsWithDifferentFlags) ∷
    (differ event.pending_id stored.pending_id, ExistsWithDifferentPendingId) ∷
    (differ event.debit_account_id stored.debit_account_id, ExistsWithDifferentDebitAccountId) ∷
    (differ event.credit_account_id stored.credit_account_id, ExistsWithDifferentCreditAccountId) ∷
    (differ event.amount stored.amount, ExistsWithDifferentAmount) ∷
    (differ event.user_data_128 stored.user_data_128, ExistsWithDifferentUserData128) ∷
    (differ event.user_data_64 stored.user_data_64, ExistsWithDifferentUserData64) ∷
    (differ event.user_data_32 stored.user_data_32, ExistsWithDifferentUserData32) ∷
    (differ event.timeout stored.timeout, ExistsWithDifferentTimeout) ∷
    (differ event.ledger stored.ledger, ExistsWithDifferentLedger) ∷
    (differ event.code stored.code, ExistsWithDifferentCode) ∷
    []

abbrev pub has_exclusive_flags : Transfer → Bool
has_exclusive_flags event =
    (is_pending event && is_post event) || (is_pending event && is_void event) || (is_post event && is_void event)

abbrev pub new_id_checks : Facts → Transfer → List (Bool × TransferCode)
new_id_checks facts event =
    (is_failed facts event.id, IdAlreadyFailed) ∷
    (has_exclusive_flags event, FlagsAreMutuallyExclusive) ∷
    []

-- ---- a post or a void

abbrev pub resolving_checks : Transfer → List (Bool × TransferCode)
resolving_checks event =
    (event.pending_id == 0, PendingIdMustNotBeZero) ∷
    (event.pending_id == u128_max, PendingIdMustNotBeIntMax) ∷
    (event.pending_id == event.id, PendingIdMustBeDifferent) ∷
    (differ event.timeout 0, TimeoutReservedForPendingTransfer) ∷
    []

-- against the named transfer; `event` is resolved
abbrev pub pending_checks : Transfer → Transfer → List (Bool × TransferCode)
pending_checks pending event =
    (not (is_pending pending), PendingTransferNotPending) ∷
    (differ event.debit_account_id pending.debit_account_id, PendingTransferHasDifferentDebitAccountId) ∷
    (differ event.credit_account_id pending.credit_account_id, PendingTransferHasDifferentCreditAccountId) ∷
    (differ event.ledger pending.ledger, PendingTransferHasDifferentLedger) ∷
    (differ event.code pending.code, PendingTransferHasDifferentCode) ∷
    (nat_lt pending.amount event.amount, ExceedsPendingTransferAmount) ∷
    (is_void event && nat_lt event.amount pending.amount, PendingTransferHasDifferentAmount) ∷
    []

abbrev pub status_checks : Facts → ℕ → Transfer → List (Bool × TransferCode)
status_checks facts timestamp pending =
    (is_named_by is_post facts pending.id, PendingTransferAlreadyPosted) ∷
    (is_named_by is_void facts pending.id, PendingTransferAlreadyVoided) ∷
    (is_expired facts pending.id || is_due timestamp pending, PendingTransferExpired) ∷
    []

-- ---- a plain or pending transfer

abbrev pub creating_checks : Transfer → List (Bool × TransferCode)
creating_checks event =
    (event.debit_account_id == 0, DebitAccountIdMustNotBeZero) ∷
    (event.debit_account_id == u128_max, DebitAccountIdMustNotBeIntMax) ∷
    (event.credit_account_id == 0, CreditAccountIdMustNotBeZero) ∷
    (event.credit_account_id == u128_max, CreditAccountIdMustNotBeIntMax) ∷
    (event.debit_account_id == event.credit_account_id, AccountsMustBeDifferent) ∷
    (differ event.pending_id 0, PendingIdMustBeZero) ∷
    (not (is_pending event) && differ event.timeout 0, TimeoutReservedForPendingTransfer) ∷
    (event.ledger == 0, LedgerMustNotBeZero) ∷
    (event.code == 0, CodeMustNotBeZero) ∷
    []

abbrev pub debits_with : Account → ℕ → ℕ
debits_with account amount = account.debits_pending + account.debits_posted + amount

abbrev pub credits_with : Account → ℕ → ℕ
credits_with account amount = account.credits_pending + account.credits_posted + amount

abbrev pub balance_checks : ℕ → Account → Account → Transfer → List (Bool × TransferCode)
balance_checks timestamp debit credit event =
    (differ debit.ledger credit.ledger, AccountsMustHaveTheSameLedger) ∷
    (differ event.ledger debit.ledger, TransferMustHaveTheSameLedgerAsAccounts) ∷
    (is_pending event && nat_lt u128_max (debit.debits_pending + event.amount), OverflowsDebitsPending) ∷
    (is_pending event && nat_lt u128_max (credit.credits_pending + event.amount), OverflowsCreditsPending) ∷
    (nat_lt u128_max (debit.debits_posted + event.amount), OverflowsDebitsPosted) ∷
    (nat_lt u128_max (credit.credits_posted + event.amount), OverflowsCreditsPosted) ∷
    (nat_lt u128_max (debits_with debit event.amount), OverflowsDebits) ∷
    (nat_lt u128_max (credits_with credit event.amount), OverflowsCredits) ∷
    (differ event.timeout 0 && nat_lt clock_max (expires_at (record event { timestamp = timestamp })), OverflowsTimeout) ∷
    (debits_must_not_exceed_credits debit && nat_lt debit.credits_posted (debits_with debit event.amount), ExceedsCredits) ∷
    (credits_must_not_exceed_debits credit && nat_lt credit.debits_posted (credits_with credit event.amount), ExceedsDebits) ∷
    []

-- ---- the verdict

module _ (facts : Facts) (timestamp : ℕ) where
  abbrev pub against_named : Option Transfer → Transfer → List (Bool × TransferCode)
  against_named None event = (true, PendingTransferNotFound) ∷ []
  against_named (Some pending) event =
      pending_checks pending (resolved_transfer pending event) ++ status_checks facts timestamp pending

  abbrev pub resolving_verdict : Transfer → TransferCode
  resolving_verdict event =
      first_row (resolving_checks event ++ against_named (transfer_with facts event.pending_id) event) Ok

  abbrev pub against_accounts : Option Account → Option Account → Transfer → List (Bool × TransferCode)
  against_accounts None credit event = (true, DebitAccountNotFound) ∷ []
  against_accounts (Some debit) None event = (true, CreditAccountNotFound) ∷ []
  against_accounts (Some debit) (Some credit) event = balance_checks timestamp debit credit event

  abbrev pub creating_verdict : Transfer → TransferCode
  creating_verdict event =
      first_row (creating_checks event ++ against_accounts (balanced_account facts event.debit_account_id)
      (balanced_account facts event.credit_account_id) event) Ok

  abbrev pub new_id_verdict : Transfer → TransferCode
  new_id_verdict event =
      first_row (new_id_checks facts event)
      (if is_resolving event then resolving_verdict event else creating_verdict event)

  abbrev pub against_id : Option Transfer → Transfer → TransferCode
  against_id (Some stored) event =
      first_row (stored_checks stored (resolved_transfer_of (transfer_with facts stored.pending_id) event)) Exists
  against_id None event = new_id_verdict event

  abbrev pub transfer_verdict : Transfer → TransferCode
  transfer_verdict event = first_row (event_checks event) (against_id (transfer_with facts event.id) event)
