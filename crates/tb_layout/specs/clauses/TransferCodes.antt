-- The results of create_transfers, by rising number, with TigerBeetle's names.
use Rattle.std.specs.Prelude.{ℕ, Option, List, [], ◌∷◌, codes}
use Rattle.tb_layout.specs.declared.transfer_code.TransferCode.{TransferCode}
use Rattle.tb_layout.specs.declared.transfer_code.TransferCode.TheVariants.{Ok, LinkedEventFailed, LinkedEventChainOpen, TimestampMustBeZero, ReservedFlag, IdMustNotBeZero, IdMustNotBeIntMax, FlagsAreMutuallyExclusive, DebitAccountIdMustNotBeZero, DebitAccountIdMustNotBeIntMax, CreditAccountIdMustNotBeZero, CreditAccountIdMustNotBeIntMax, AccountsMustBeDifferent, PendingIdMustBeZero, PendingIdMustNotBeZero, PendingIdMustNotBeIntMax, PendingIdMustBeDifferent, TimeoutReservedForPendingTransfer, LedgerMustNotBeZero, CodeMustNotBeZero, DebitAccountNotFound, CreditAccountNotFound, AccountsMustHaveTheSameLedger, TransferMustHaveTheSameLedgerAsAccounts, PendingTransferNotFound, PendingTransferNotPending, PendingTransferHasDifferentDebitAccountId, PendingTransferHasDifferentCreditAccountId, PendingTransferHasDifferentLedger, PendingTransferHasDifferentCode, ExceedsPendingTransferAmount, PendingTransferHasDifferentAmount, PendingTransferAlreadyPosted, PendingTransferAlreadyVoided, PendingTransferExpired, ExistsWithDifferentFlags, ExistsWithDifferentDebitAccountId, ExistsWithDifferentCreditAccountId, ExistsWithDifferentAmount, ExistsWithDifferentPendingId, ExistsWithDifferentUserData128, ExistsWithDifferentUserData64, ExistsWithDifferentUserData32, ExistsWithDifferentTimeout, ExistsWithDifferentCode, Exists, OverflowsDebitsPending, OverflowsCreditsPending, OverflowsDebitsPosted, OverflowsCreditsPosted, OverflowsDebits, OverflowsCredits, OverflowsTimeout, ExceedsCredits, ExceedsDebits, ExistsWithDifferentLedger, IdAlreadyFailed, ClockExhausted}
use Rattle.tb_layout.specs.claim.TransferCode.{number_of}
use Rattle.tb_layout.specs.clauses.Codes.{first_with, code_in, name_in}

abbrev pub rows : List (TransferCode × List ℕ)
rows =
    (Ok, codes "ok") ∷
    (LinkedEventFailed, codes "linked_event_failed") ∷
    (LinkedEventChainOpen, codes "linked_event_chain_open") ∷
    (TimestampMustBeZero, codes "timestamp_must_be_zero") ∷
    (ReservedFlag, codes "reserved_flag") ∷
    (IdMustNotBeZero, codes "id_must_not_be_zero") ∷
    (IdMustNotBeIntMax, codes "id_must_not_be_int_max") ∷
    (FlagsAreMutuallyExclusive, codes "flags_are_mutually_exclusive") ∷
    (DebitAccountIdMustNotBeZero, codes "debit_account_id_must_not_be_zero") ∷
    (DebitAccountIdMustNotBeIntMax, codes "debit_account_id_must_not_be_int_max") ∷
    (CreditAccountIdMustNotBeZero, codes "credit_account_id_must_not_be_zero") ∷
    (CreditAccountIdMustNotBeIntMax, codes "credit_account_id_must_not_be_int_max") ∷
    (AccountsMustBeDifferent, codes "accounts_must_be_different") ∷
    (PendingIdMustBeZero, codes "pending_id_must_be_zero") ∷
    (PendingIdMustNotBeZero, codes "pending_id_must_not_be_zero") ∷
    (PendingIdMustNotBeIntMax, codes "pending_id_must_not_be_int_max") ∷
    (PendingIdMustBeDifferent, codes "pending_id_must_be_different") ∷
    (TimeoutReservedForPendingTransfer, codes "timeout_reserved_for_pending_transfer") ∷
    (LedgerMustNotBeZero, codes "ledger_must_not_be_zero") ∷
    (CodeMustNotBeZero, codes "code_must_not_be_zero") ∷
    (DebitAccountNotFound, codes "debit_account_not_found") ∷
    (CreditAccountNotFound, codes "credit_account_not_found") ∷
    (AccountsMustHaveTheSameLedger, codes "accounts_must_have_the_same_ledger") ∷
    (TransferMustHaveTheSameLedgerAsAccounts, codes "transfer_must_have_the_same_ledger_as_accounts") ∷
    (PendingTransferNotFound, codes "pending_transfer_not_found") ∷
    (PendingTransferNotPending, codes "pending_transfer_not_pending") ∷
    (PendingTransferHasDifferentDebitAccountId, codes "pending_transfer_has_different_debit_account_id") ∷
    (PendingTransferHasDifferentCreditAccountId, codes "pending_transfer_has_different_credit_account_id") ∷
    (PendingTransferHasDifferentLedger, codes "pending_transfer_has_different_ledger") ∷
    (PendingTransferHasDifferentCode, codes "pending_transfer_has_different_code") ∷
    (ExceedsPendingTransferAmount, codes "exceeds_pending_transfer_amount") ∷
    (PendingTransferHasDifferentAmount, codes "pending_transfer_has_different_amount") ∷
    (PendingTransferAlreadyPosted, codes "pending_transfer_already_posted") ∷
    (PendingTransferAlreadyVoided, codes "pending_transfer_already_voided") ∷
    (PendingTransferExpired, codes "pending_transfer_expired") ∷
    (ExistsWithDifferentFlags, codes "exists_with_different_flags") ∷
    (ExistsWithDifferentDebitAccountId, codes "exists_with_different_debit_account_id") ∷
    (ExistsWithDifferentCreditAccountId, codes "exists_with_different_credit_account_id") ∷
    (ExistsWithDifferentAmount, codes "exists_with_different_amount") ∷
    (ExistsWithDifferentPendingId, codes "exists_with_different_pending_id") ∷
    (ExistsWithDifferentUserData128, codes "exists_with_different_user_data_128") ∷
    (ExistsWithDifferentUserData64, codes "exists_with_different_user_data_64") ∷
    (ExistsWithDifferentUserData32, codes "exists_with_different_user_data_32") ∷
    (ExistsWithDifferentTimeout, codes "exists_with_different_timeout") ∷
    (ExistsWithDifferentCode, codes "exists_with_different_code") ∷
    (Exists, codes "exists") ∷
    (OverflowsDebitsPending, codes "overflows_debits_pending") ∷
    (OverflowsCreditsPending, codes "overflows_credits_pending") ∷
    (OverflowsDebitsPosted, codes "overflows_debits_posted") ∷
    (OverflowsCreditsPosted, codes "overflows_credits_posted") ∷
    (OverflowsDebits, codes "overflows_debits") ∷
    (OverflowsCredits, codes "overflows_credits") ∷
    (OverflowsTimeout, codes "overflows_timeout") ∷
    (ExceedsCredits, codes "exceeds_credits") ∷
    (ExceedsDebits, codes "exceeds_debits") ∷
    (ExistsWithDifferentLedger, codes "exists_with_different_ledger") ∷
    (IdAlreadyFailed, codes "id_already_failed") ∷
    (ClockExhausted, codes "clock_exhausted") ∷
    []

abbrev pub code_of : ℕ → Option TransferCode
code_of number = code_in (first_with number_of number rows)

abbrev pub name_of : TransferCode → List ℕ
name_of code = name_in (first_with number_of (number_of code) rows)
