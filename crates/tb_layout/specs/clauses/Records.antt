-- The bytes of accounts and transfers.
use Rattle.std.specs.Prelude.{ℕ, List, [], ◌∷◌}
use Rattle.tb_layout.specs.declared.account.Account.{Account}
use Rattle.tb_layout.specs.claim.BytesOfNumbers.{bytes_in_turn}
use Rattle.tb_layout.specs.declared.transfer.Transfer.{Transfer}

-- the 128 bytes of an account
abbrev pub account_bytes : Account → List ℕ
account_bytes account = bytes_in_turn (
    (16, account.id) ∷ (16, account.debits_pending) ∷ (16, account.debits_posted) ∷ (16, account.credits_pending) ∷
    (16, account.credits_posted) ∷ (16, account.user_data_128) ∷ (8, account.user_data_64) ∷ (4, account.user_data_32) ∷
    (4, account.reserved) ∷ (4, account.ledger) ∷ (2, account.code) ∷ (2, account.flags) ∷ (8, account.timestamp) ∷ []
    )

-- the 128 bytes of a transfer
abbrev pub transfer_bytes : Transfer → List ℕ
transfer_bytes transfer = bytes_in_turn (
    (16, transfer.id) ∷ (16, transfer.debit_account_id) ∷ (16, transfer.credit_account_id) ∷ (16, transfer.amount) ∷
    (16, transfer.pending_id) ∷ (16, transfer.user_data_128) ∷ (8, transfer.user_data_64) ∷ (4, transfer.user_data_32) ∷
    (4, transfer.timeout) ∷ (4, transfer.ledger) ∷ (2, transfer.code) ∷ (2, transfer.flags) ∷
    (8, transfer.timestamp) ∷ []
    )
