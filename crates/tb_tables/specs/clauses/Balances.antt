-- Each of an account's balances, and pending and posted amounts together.
use Rattle.std.specs.Prelude.{ℕ, ◌+◌, ◌&&◌, ◌==◌}
use Rattle.tb_tables.specs.claim.Facts.{Facts}
use Rattle.tb_tables.specs.claim.Balances.{amount_of, is_posting}
use Rattle.tb_tables.specs.claim.Status.{is_reserving}

abbrev pub debits_pending : Facts → ℕ → ℕ
debits_pending facts id = amount_of (λ transfer. is_reserving facts transfer && (transfer.debit_account_id == id)) facts

abbrev pub debits_posted : Facts → ℕ → ℕ
debits_posted facts id = amount_of (λ transfer. is_posting transfer && (transfer.debit_account_id == id)) facts

abbrev pub credits_pending : Facts → ℕ → ℕ
credits_pending facts id =
    amount_of (λ transfer. is_reserving facts transfer && (transfer.credit_account_id == id)) facts

abbrev pub credits_posted : Facts → ℕ → ℕ
credits_posted facts id = amount_of (λ transfer. is_posting transfer && (transfer.credit_account_id == id)) facts

-- all that was debited, or credited, pending and posted together
abbrev pub debits : Facts → ℕ → ℕ
debits facts id = debits_pending facts id + debits_posted facts id

abbrev pub credits : Facts → ℕ → ℕ
credits facts id = credits_pending facts id + credits_posted facts id
