-- The results of create_accounts, by rising number, with TigerBeetle's names.
use Rattle.std.specs.Prelude.{ℕ, Option, List, [], ◌∷◌, codes}
use Rattle.tb_layout.specs.declared.account_code.AccountCode.{AccountCode}
use Rattle.tb_layout.specs.declared.account_code.AccountCode.TheVariants.{Ok, LinkedEventFailed, LinkedEventChainOpen, TimestampMustBeZero, ReservedField, ReservedFlag, IdMustNotBeZero, IdMustNotBeIntMax, FlagsAreMutuallyExclusive, DebitsPendingMustBeZero, DebitsPostedMustBeZero, CreditsPendingMustBeZero, CreditsPostedMustBeZero, LedgerMustNotBeZero, CodeMustNotBeZero, ExistsWithDifferentFlags, ExistsWithDifferentUserData128, ExistsWithDifferentUserData64, ExistsWithDifferentUserData32, ExistsWithDifferentLedger, ExistsWithDifferentCode, Exists, ClockExhausted}
use Rattle.tb_layout.specs.claim.AccountCode.{number_of}
use Rattle.tb_layout.specs.clauses.Codes.{first_with, code_in, name_in}

abbrev pub rows : List (AccountCode × List ℕ)
rows =
    (Ok, codes "ok") ∷
    (LinkedEventFailed, codes "linked_event_failed") ∷
    (LinkedEventChainOpen, codes "linked_event_chain_open") ∷
    (TimestampMustBeZero, codes "timestamp_must_be_zero") ∷
    (ReservedField, codes "reserved_field") ∷
    (ReservedFlag, codes "reserved_flag") ∷
    (IdMustNotBeZero, codes "id_must_not_be_zero") ∷
    (IdMustNotBeIntMax, codes "id_must_not_be_int_max") ∷
    (FlagsAreMutuallyExclusive, codes "flags_are_mutually_exclusive") ∷
    (DebitsPendingMustBeZero, codes "debits_pending_must_be_zero") ∷
    (DebitsPostedMustBeZero, codes "debits_posted_must_be_zero") ∷
    (CreditsPendingMustBeZero, codes "credits_pending_must_be_zero") ∷
    (CreditsPostedMustBeZero, codes "credits_posted_must_be_zero") ∷
    (LedgerMustNotBeZero, codes "ledger_must_not_be_zero") ∷
    (CodeMustNotBeZero, codes "code_must_not_be_zero") ∷
    (ExistsWithDifferentFlags, codes "exists_with_different_flags") ∷
    (ExistsWithDifferentUserData128, codes "exists_with_different_user_data_128") ∷
    (ExistsWithDifferentUserData64, codes "exists_with_different_user_data_64") ∷
    (ExistsWithDifferentUserData32, codes "exists_with_different_user_data_32") ∷
    (ExistsWithDifferentLedger, codes "exists_with_different_ledger") ∷
    (ExistsWithDifferentCode, codes "exists_with_different_code") ∷
    (Exists, codes "exists") ∷
    (ClockExhausted, codes "clock_exhausted") ∷
    []

abbrev pub code_of : ℕ → Option AccountCode
code_of number = code_in (first_with number_of number rows)

abbrev pub name_of : AccountCode → List ℕ
name_of code = name_in (first_with number_of (number_of code) rows)
