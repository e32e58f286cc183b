-- The verdict on an account.
use Rattle.std.specs.Prelude.{◌&&◌, ◌==◌, [], ◌∷◌, Option, Some, None, Bool, List}
use Rattle.tb_layout.specs.declared.account.Account.{Account}
use Rattle.tb_layout.specs.declared.account_code.AccountCode.{AccountCode}
use Rattle.tb_layout.specs.declared.account_code.AccountCode.TheVariants.{TimestampMustBeZero, ReservedField, ReservedFlag, IdMustNotBeZero, IdMustNotBeIntMax, ExistsWithDifferentFlags, ExistsWithDifferentUserData128, ExistsWithDifferentUserData64, ExistsWithDifferentUserData32, ExistsWithDifferentLedger, ExistsWithDifferentCode, FlagsAreMutuallyExclusive, DebitsPendingMustBeZero, DebitsPostedMustBeZero, CreditsPendingMustBeZero, CreditsPostedMustBeZero, LedgerMustNotBeZero, CodeMustNotBeZero, Exists, Ok}
use Rattle.tb_layout.specs.claim.Account.{debits_must_not_exceed_credits, credits_must_not_exceed_debits}
use Rattle.tb_layout.specs.claim.Bytes.{has_reserved_flag}
use Rattle.tb_tables.specs.claim.Facts.{Facts, account_with}
use Rattle.tb_machine.specs.claim.Checks.{first_row, differ, u128_max}

abbrev pub event_checks : Account → List (Bool × AccountCode)
event_checks event =
    (differ event.timestamp 0, TimestampMustBeZero) ∷
    (differ event.reserved 0, ReservedField) ∷
    (has_reserved_flag event.flags, ReservedFlag) ∷
    (event.id == 0, IdMustNotBeZero) ∷
    (event.id == u128_max, IdMustNotBeIntMax) ∷
    []

-- against the account with its id
abbrev pub stored_checks : Account → Account → List (Bool × AccountCode)
stored_checks stored event =
    (differ event.flags stored.flags, ExistsWithDifferentFlags) ∷
    (differ event.user_data_128 stored.user_data_128, ExistsWithDifferentUserData128) ∷
    (differ event.user_data_64 stored.user_data_64, ExistsWithDifferentUserData64) ∷
    (differ event.user_data_32 stored.user_data_32, ExistsWithDifferentUserData32) ∷
    (differ event.ledger stored.ledger, ExistsWithDifferentLedger) ∷
    (differ event.code stored.code, ExistsWithDifferentCode) ∷
    []

abbrev pub new_id_checks : Account → List (Bool × AccountCode)
new_id_checks event =
    (debits_must_not_exceed_credits event && credits_must_not_exceed_debits event, FlagsAreMutuallyExclusive) ∷
    (differ event.debits_pending 0, DebitsPendingMustBeZero) ∷
    (differ event.debits_posted 0, DebitsPostedMustBeZero) ∷
    (differ event.credits_pending 0, CreditsPendingMustBeZero) ∷
    (differ event.credits_posted 0, CreditsPostedMustBeZero) ∷
    (event.ledger == 0, LedgerMustNotBeZero) ∷
    (event.code == 0, CodeMustNotBeZero) ∷
    []

abbrev pub against_id : Option Account → Account → AccountCode
against_id (Some stored) event = first_row (stored_checks stored event) Exists
against_id None event = first_row (new_id_checks event) Ok

abbrev pub account_verdict : Facts → Account → AccountCode
account_verdict facts event = first_row (event_checks event) (against_id (account_with facts event.id) event)
