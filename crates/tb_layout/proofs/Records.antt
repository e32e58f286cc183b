-- Records as lists of numbers.
use Rattle.std.proofs.Common.{◌≡◌, ℕ, ◌^◌, ◌<◌, List, [], ◌∷◌, take, drop, sym}
use Rattle.tb_layout.specs.declared.account.Account.{Account}
use Rattle.tb_layout.specs.declared.transfer.Transfer.{Transfer}
use Rattle.tb_layout.specs.declared.failure.Failure.{Failure}
use Rattle.tb_layout.specs.claim.Account.{account_of}
use Rattle.tb_layout.specs.clauses.Records.{account_bytes, transfer_bytes}
use Rattle.tb_layout.specs.claim.Transfer.{transfer_of}
use Rattle.tb_layout.specs.clauses.Failure.{failure_of, failure_bytes}
use Rattle.tb_layout.specs.claim.BytesOfNumbers.{IsBytes}
use Rattle.tb_layout.proofs.Numbers.{number_at-laid, laid-fields_from}

abbrev account_fields : Account → List (ℕ × ℕ)
account_fields account =
    (16, account.id) ∷ (16, account.debits_pending) ∷ (16, account.debits_posted) ∷ (16, account.credits_pending) ∷
    (16, account.credits_posted) ∷ (16, account.user_data_128) ∷ (8, account.user_data_64) ∷ (4, account.user_data_32) ∷
    (4, account.reserved) ∷ (4, account.ledger) ∷ (2, account.code) ∷ (2, account.flags) ∷ (8, account.timestamp) ∷ []

-- the numbers of an account fit their sizes
pub record IsAccount (account : Account) : Type 0 where
  pub id : account.id < 256 ^ 16
  pub debits_pending : account.debits_pending < 256 ^ 16
  pub debits_posted : account.debits_posted < 256 ^ 16
  pub credits_pending : account.credits_pending < 256 ^ 16
  pub credits_posted : account.credits_posted < 256 ^ 16
  pub user_data_128 : account.user_data_128 < 256 ^ 16
  pub user_data_64 : account.user_data_64 < 256 ^ 8
  pub user_data_32 : account.user_data_32 < 256 ^ 4
  pub reserved : account.reserved < 256 ^ 4
  pub ledger : account.ledger < 256 ^ 4
  pub code : account.code < 256 ^ 2
  pub flags : account.flags < 256 ^ 2
  pub timestamp : account.timestamp < 256 ^ 8

pub account_of-account_bytes : (account : Account) → IsAccount account → account_of (account_bytes account) ≡ account
account_of-account_bytes account fits =
    let all = account_fields account in λ i. record {
      id = number_at-laid (take 0 all) 16 account.id (drop 1 all) fits.id i;
      debits_pending = number_at-laid (take 1 all) 16 account.debits_pending (drop 2 all) fits.debits_pending i;
      debits_posted = number_at-laid (take 2 all) 16 account.debits_posted (drop 3 all) fits.debits_posted i;
      credits_pending = number_at-laid (take 3 all) 16 account.credits_pending (drop 4 all) fits.credits_pending i;
      credits_posted = number_at-laid (take 4 all) 16 account.credits_posted (drop 5 all) fits.credits_posted i;
      user_data_128 = number_at-laid (take 5 all) 16 account.user_data_128 (drop 6 all) fits.user_data_128 i;
      user_data_64 = number_at-laid (take 6 all) 8 account.user_data_64 (drop 7 all) fits.user_data_64 i;
      user_data_32 = number_at-laid (take 7 all) 4 account.user_data_32 (drop 8 all) fits.user_data_32 i;
      reserved = number_at-laid (take 8 all) 4 account.reserved (drop 9 all) fits.reserved i;
      ledger = number_at-laid (take 9 all) 4 account.ledger (drop 10 all) fits.ledger i;
      code = number_at-laid (take 10 all) 2 account.code (drop 11 all) fits.code i;
      flags = number_at-laid (take 11 all) 2 account.flags (drop 12 all) fits.flags i;
      timestamp = number_at-laid (take 12 all) 8 account.timestamp (drop 13 all) fits.timestamp i;
    }

-- the only bytes that are read as an account are its own
pub account_bytes-account_of : (bytes : List ℕ) → IsBytes 128 bytes → account_bytes (account_of bytes) ≡ bytes
account_bytes-account_of bytes h =
    laid-fields_from (16 ∷ 16 ∷ 16 ∷ 16 ∷ 16 ∷ 16 ∷ 8 ∷ 4 ∷ 4 ∷ 4 ∷ 2 ∷ 2 ∷ 8 ∷ []) 0 bytes (sym h.count) h.each

abbrev transfer_fields : Transfer → List (ℕ × ℕ)
transfer_fields transfer =
    (16, transfer.id) ∷ (16, transfer.debit_account_id) ∷ (16, transfer.credit_account_id) ∷ (16, transfer.amount) ∷
    (16, transfer.pending_id) ∷ (16, transfer.user_data_128) ∷ (8, transfer.user_data_64) ∷ (4, transfer.user_data_32) ∷
    (4, transfer.timeout) ∷ (4, transfer.ledger) ∷ (2, transfer.code) ∷ (2, transfer.flags) ∷
    (8, transfer.timestamp) ∷ []

-- the numbers of a transfer fit their sizes
pub record IsTransfer (transfer : Transfer) : Type 0 where
  pub id : transfer.id < 256 ^ 16
  pub debit_account_id : transfer.debit_account_id < 256 ^ 16
  pub credit_account_id : transfer.credit_account_id < 256 ^ 16
  pub amount : transfer.amount < 256 ^ 16
  pub pending_id : transfer.pending_id < 256 ^ 16
  pub user_data_128 : transfer.user_data_128 < 256 ^ 16
  pub user_data_64 : transfer.user_data_64 < 256 ^ 8
  pub user_data_32 : transfer.user_data_32 < 256 ^ 4
  pub timeout : transfer.timeout < 256 ^ 4
  pub ledger : transfer.ledger < 256 ^ 4
  pub code : transfer.code < 256 ^ 2
  pub flags : transfer.flags < 256 ^ 2
  pub timestamp : transfer.timestamp < 256 ^ 8

pub transfer_of-transfer_bytes : (transfer : Transfer) → IsTransfer transfer
    → transfer_of (transfer_bytes transfer) ≡ transfer
transfer_of-transfer_bytes transfer fits =
    let all = transfer_fields transfer in λ i. record {
      id = number_at-laid (take 0 all) 16 transfer.id (drop 1 all) fits.id i;
      debit_account_id = number_at-laid (take 1 all) 16 transfer.debit_account_id (drop 2 all) fits.debit_account_id i;
      credit_account_id = number_at-laid (take 2 all) 16 transfer.credit_account_id (drop 3 all) fits.credit_account_id i;
      amount = number_at-laid (take 3 all) 16 transfer.amount (drop 4 all) fits.amount i;
      pending_id = number_at-laid (take 4 all) 16 transfer.pending_id (drop 5 all) fits.pending_id i;
      user_data_128 = number_at-laid (take 5 all) 16 transfer.user_data_128 (drop 6 all) fits.user_data_128 i;
      user_data_64 = number_at-laid (take 6 all) 8 transfer.user_data_64 (drop 7 all) fits.user_data_64 i;
      user_data_32 = number_at-laid (take 7 all) 4 transfer.user_data_32 (drop 8 all) fits.user_data_32 i;
      timeout = number_at-laid (take 8 all) 4 transfer.timeout (drop 9 all) fits.timeout i;
      ledger = number_at-laid (take 9 all) 4 transfer.ledger (drop 10 all) fits.ledger i;
      code = number_at-laid (take 10 all) 2 transfer.code (drop 11 all) fits.code i;
      flags = number_at-laid (take 11 all) 2 transfer.flags (drop 12 all) fits.flags i;
      timestamp = number_at-laid (take 12 all) 8 transfer.timestamp (drop 13 all) fits.timestamp i;
    }

-- the only bytes that are read as a transfer are its own
pub transfer_bytes-transfer_of : (bytes : List ℕ) → IsBytes 128 bytes → transfer_bytes (transfer_of bytes) ≡ bytes
transfer_bytes-transfer_of bytes h =
    laid-fields_from (16 ∷ 16 ∷ 16 ∷ 16 ∷ 16 ∷ 16 ∷ 8 ∷ 4 ∷ 4 ∷ 4 ∷ 2 ∷ 2 ∷ 8 ∷ []) 0 bytes (sym h.count) h.each

pub failure_of-failure_bytes : (failure : Failure) → failure.index < 256 ^ 4 → failure.code < 256 ^ 4
    → failure_of (failure_bytes failure) ≡ failure
failure_of-failure_bytes failure index code = λ i. record {
  index = number_at-laid [] 4 failure.index ((4, failure.code) ∷ []) index i;
  code = number_at-laid ((4, failure.index) ∷ []) 4 failure.code [] code i;
}

pub failure_bytes-failure_of : (bytes : List ℕ) → IsBytes 8 bytes → failure_bytes (failure_of bytes) ≡ bytes
failure_bytes-failure_of bytes h = laid-fields_from (4 ∷ 4 ∷ []) 0 bytes (sym h.count) h.each
