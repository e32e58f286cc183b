-- The results of create_transfers.
use Rattle.std.specs.Prelude.{ℕ}
use Rattle.tb_layout.specs.declared.transfer_code.TransferCode.{TransferCode}
use Rattle.tb_layout.specs.declared.transfer_code.TransferCode.TheVariants.{Ok, LinkedEventFailed, LinkedEventChainOpen, TimestampMustBeZero, ReservedFlag, IdMustNotBeZero, IdMustNotBeIntMax, FlagsAreMutuallyExclusive, DebitAccountIdMustNotBeZero, DebitAccountIdMustNotBeIntMax, CreditAccountIdMustNotBeZero, CreditAccountIdMustNotBeIntMax, AccountsMustBeDifferent, PendingIdMustBeZero, PendingIdMustNotBeZero, PendingIdMustNotBeIntMax, PendingIdMustBeDifferent, TimeoutReservedForPendingTransfer, LedgerMustNotBeZero, CodeMustNotBeZero, DebitAccountNotFound, CreditAccountNotFound, AccountsMustHaveTheSameLedger, TransferMustHaveTheSameLedgerAsAccounts, PendingTransferNotFound, PendingTransferNotPending, PendingTransferHasDifferentDebitAccountId, PendingTransferHasDifferentCreditAccountId, PendingTransferHasDifferentLedger, PendingTransferHasDifferentCode, ExceedsPendingTransferAmount, PendingTransferHasDifferentAmount, PendingTransferAlreadyPosted, PendingTransferAlreadyVoided, PendingTransferExpired, ExistsWithDifferentFlags, ExistsWithDifferentDebitAccountId, ExistsWithDifferentCreditAccountId, ExistsWithDifferentAmount, ExistsWithDifferentPendingId, ExistsWithDifferentUserData128, ExistsWithDifferentUserData64, ExistsWithDifferentUserData32, ExistsWithDifferentTimeout, ExistsWithDifferentCode, Exists, OverflowsDebitsPending, OverflowsCreditsPending, OverflowsDebitsPosted, OverflowsCreditsPosted, OverflowsDebits, OverflowsCredits, OverflowsTimeout, ExceedsCredits, ExceedsDebits, ExistsWithDifferentLedger, IdAlreadyFailed, ClockExhausted}

abbrev pub number_of : TransferCode → ℕ
number_of Ok = 0
number_of LinkedEventFailed = 1
number_of LinkedEventChainOpen = 2
number_of TimestampMustBeZero = 3
number_of ReservedFlag = 4
number_of IdMustNotBeZero = 5
number_of IdMustNotBeIntMax = 6
number_of FlagsAreMutuallyExclusive = 7
number_of DebitAccountIdMustNotBeZero = 8
number_of DebitAccountIdMustNotBeIntMax = 9
number_of CreditAccountIdMustNotBeZero = 10
number_of CreditAccountIdMustNotBeIntMax = 11
number_of AccountsMustBeDifferent = 12
number_of PendingIdMustBeZero = 13
number_of PendingIdMustNotBeZero = 14
number_of PendingIdMustNotBeIntMax = 15
number_of PendingIdMustBeDifferent = 16
number_of TimeoutReservedForPendingTransfer = 17
number_of LedgerMustNotBeZero = 19
number_of CodeMustNotBeZero = 20
number_of DebitAccountNotFound = 21
number_of CreditAccountNotFound = 22
number_of AccountsMustHaveTheSameLedger = 23
number_of TransferMustHaveTheSameLedgerAsAccounts = 24
number_of PendingTransferNotFound = 25
number_of PendingTransferNotPending = 26
number_of PendingTransferHasDifferentDebitAccountId = 27
number_of PendingTransferHasDifferentCreditAccountId = 28
number_of PendingTransferHasDifferentLedger = 29
number_of PendingTransferHasDifferentCode = 30
number_of ExceedsPendingTransferAmount = 31
number_of PendingTransferHasDifferentAmount = 32
number_of PendingTransferAlreadyPosted = 33
number_of PendingTransferAlreadyVoided = 34
number_of PendingTransferExpired = 35
number_of ExistsWithDifferentFlags = 36
number_of ExistsWithDifferentDebitAccountId = 37
number_of ExistsWithDifferentCreditAccountId = 38
number_of ExistsWithDifferentAmount = 39
number_of ExistsWithDifferentPendingId = 40
number_of ExistsWithDifferentUserData128 = 41
number_of ExistsWithDifferentUserData64 = 42
number_of ExistsWithDifferentUserData32 = 43
number_of ExistsWithDifferentTimeout = 44
number_of ExistsWithDifferentCode = 45
number_of Exists = 46
number_of OverflowsDebitsPending = 47
number_of OverflowsCreditsPending = 48
number_of OverflowsDebitsPosted = 49
number_of OverflowsCreditsPosted = 50
number_of OverflowsDebits = 51
number_of OverflowsCredits = 52
number_of OverflowsTimeout = 53
number_of ExceedsCredits = 54
number_of ExceedsDebits = 55
number_of ExistsWithDifferentLedger = 67
number_of IdAlreadyFailed = 68
number_of ClockExhausted = 201
