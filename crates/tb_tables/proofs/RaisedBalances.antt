-- A balance of one account raised or lowered among the accounts' rows.
use Rattle.std.proofs.Common.{refl, sym, ap, ◌∙◌, arith, ◌≡◌, ℕ, ◌+◌, ◌<◌, ◌≤◌, ◌^◌, false, List, [], nat_eq, slice_get, Some, ◌==◌, append-nil}
use Rattle.tb_tables.proofs.Words.{IsDistinct, keys_of, nat_tests, set_value_at, Account, Sums, HasRoom, HasAmount, debits_in, credits_in, balance_of, with_more, raise_balance, lower_balance, with_sums, account_rows, Balance, Phase}
use Rattle.tb_tables.proofs.MapRows.{row-indexed_at, rows-set}

raised-here : (balance : Balance) (amount : ℕ) (sums : Sums) (account : Account)
    → with_sums (with_more balance account.id amount sums) account
    ≡ raise_balance balance amount (with_sums sums account)
raised-here balance amount sums account = grind (arith, nat_tests)

raised-elsewhere : (balance : Balance) (id amount : ℕ) (sums : Sums) (account : Account)
    → (account.id == id) ≡ false → with_sums (with_more balance id amount sums) account ≡ with_sums sums account
raised-elsewhere balance id amount sums account apart = grind (arith, nat_tests, apart)

lowered-raised : (balance : Balance) (amount : ℕ) (account : Account)
    → lower_balance balance amount (raise_balance balance amount account) ≡ account
lowered-raised balance amount account = grind arith

-- a raised balance contains what it was raised by
contains : (balance : Balance) (amount : ℕ) (sums : Sums) (account : Account)
    → amount ≤ balance_of balance (with_sums (with_more balance account.id amount sums) account)
contains balance amount sums account = grind (arith, nat_tests)

module _ (accounts : List Account) (index : ℕ) {account : Account} (at : slice_get accounts index ≡ Some account) where
  row-there : (sums : Sums) → slice_get (account_rows sums accounts) index ≡ Some (account.id, with_sums sums account)
  row-there sums = row-indexed_at (λ (a : Account). a.id) (with_sums sums) accounts refl index at

  -- its row, set to what other sums make of it
  row-changed : (f : Account → Account) (old new : Sums) → f (with_sums old account) ≡ with_sums new account
      → ((other : Account) → (other.id == account.id) ≡ false → with_sums new other ≡ with_sums old other)
      → {entries : List (ℕ × Account)} {row : ℕ × Account} → slice_get entries index ≡ Some row
      → IsDistinct nat_eq (keys_of entries) → entries ≡ account_rows old accounts
      → set_value_at entries index (f row.1) ≡ account_rows new accounts
  row-changed f old new here elsewhere {row = row} there apart is =
      let same : row ≡ (account.id, with_sums old account) = cc (row-there old, rw is at there) in
      rows-set (λ (a : Account). a.id) (with_sums old) (with_sums new) [] accounts index at (ap (λ (r : ℕ × Account). f r.1) same ∙ here)
      elsewhere (is ∙ sym (append-nil _)) apart ∙ append-nil _

  module _ (balance : Balance) (amount : ℕ) (sums : Sums) where
    abbrev raised : Sums
    raised = with_more balance account.id amount sums

    pub rows-raised : {entries : List (ℕ × Account)} {row : ℕ × Account} → slice_get entries index ≡ Some row
        → IsDistinct nat_eq (keys_of entries) → entries ≡ account_rows sums accounts
        → set_value_at entries index (raise_balance balance amount row.1) ≡ account_rows raised accounts
    rows-raised =
        row-changed (raise_balance balance amount) sums raised (sym (raised-here balance amount sums account))
        (raised-elsewhere balance account.id amount sums)

    pub rows-lowered : {entries : List (ℕ × Account)} {row : ℕ × Account} → slice_get entries index ≡ Some row
        → IsDistinct nat_eq (keys_of entries) → entries ≡ account_rows raised accounts
        → set_value_at entries index (lower_balance balance amount row.1) ≡ account_rows sums accounts
    rows-lowered =
        row-changed (lower_balance balance amount) raised sums
        (ap (lower_balance balance amount) (raised-here balance amount sums account)
        ∙ lowered-raised balance amount (with_sums sums account))
        (λ other apart. sym (raised-elsewhere balance account.id amount sums other apart))

    pub has_room : {entries : List (ℕ × Account)} → entries ≡ account_rows sums accounts
        → balance_of balance (with_sums sums account) + amount < 2 ^ 128 → HasRoom entries index balance amount
    has_room is fits = rw is (record { row = (account.id, with_sums sums account); there = row-there sums; fits = fits })

    pub has_amount : {entries : List (ℕ × Account)} → entries ≡ account_rows raised accounts
        → HasAmount entries index balance amount
    has_amount is =
        rw is (record {
          row = (account.id, with_sums raised account);
          there = row-there raised;
          has = contains balance amount sums account;
        })

-- a raised debit leaves the credits
pub credits-kept : (phase : Phase) (id amount : ℕ) (sums : Sums) (account : Account)
    → balance_of (credits_in phase) (with_sums (with_more (debits_in phase) id amount sums) account)
    ≡ balance_of (credits_in phase) (with_sums sums account)
credits-kept phase id amount sums account = grind arith
