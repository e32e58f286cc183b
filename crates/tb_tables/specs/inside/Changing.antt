-- What holds of a transfer while it is stored, undone, removed from the expiries, or expires.
use Rattle.std.specs.Prelude.{◌≡◌, ℕ, Bool, true, false, ◌||◌, ◌==◌, List, ◌++◌, map, filter, slice_get, Option, Some, None, if◌then◌else◌}
use Rattle.tb_layout.specs.declared.account.Account.{Account}
use Rattle.tb_layout.specs.declared.transfer.Transfer.{Transfer}
use Rattle.tb_layout.specs.claim.Transfer.{is_pending}
use Rattle.tb_tables.specs.claim.Facts.{Facts, is_expired, add_transfer}
use Rattle.tb_tables.specs.claim.Status.{is_reserving}
use Rattle.tb_tables.specs.clauses.Lawful.{IsLawful}
use Rattle.tb_tables.specs.clauses.Sums.{sums_of, account_rows}
use Rattle.tb_tables.specs.clauses.Contents.{Allow, AreGrounded, Contain, transfer_rows}
use Rattle.tb_tables.specs.declared.indices.Indices.{Indices}
use Rattle.tb_tables.specs.declared.row.Row.{Row}
use Rattle.tb_tables.specs.declared.status.Status.{Status}
use Rattle.tb_tables.specs.declared.status.Status.TheVariants.{Pending, Posted, Voided}

-- the status of a transfer that nothing resolved, and its row
abbrev pub status_first : Transfer → Option Status
status_first transfer = if is_pending transfer then Some Pending else None

abbrev pub new_row : Transfer → Row
new_row transfer = record { transfer = transfer; status = status_first transfer }

-- a transfer that the facts allow, on its way in or out, and the rows after those of the others
pub record Step (transfer : Transfer) (indices : Indices) : Type 0 where
  pub facts : Facts
  pub more : List (ℕ × Row)
  pub allow : Allow facts transfer indices

-- the balances, and the statuses of the others, are what some facts say
pub record AreOf (now : Facts) (facts : Facts) (more : List (ℕ × Row)) (account_entries : List (ℕ × Account))
    (transfer_entries : List (ℕ × Row)) : Type 0 where
  pub accounts_are : account_entries ≡ account_rows (sums_of now) facts.accounts
  pub transfers_are : transfer_entries ≡ transfer_rows now facts.transfers ++ more

-- nothing that it changes is changed, or all of it is
abbrev pub IsBefore : {transfer : Transfer} {indices : Indices} → Step transfer indices → List (ℕ × Account)
    → List (ℕ × Row) → Type 0
IsBefore step = AreOf step.facts step.facts step.more

abbrev pub IsAfter : {transfer : Transfer} {indices : Indices} → Step transfer indices → List (ℕ × Account)
    → List (ℕ × Row) → Type 0
IsAfter {transfer} step = AreOf (add_transfer step.facts transfer) step.facts step.more

-- a transfer is stored, with the balances and the status that it changes
pub record IsStored (facts : Facts) (transfer : Transfer) (indices : Indices) (account_entries : List (ℕ × Account))
    (transfer_entries : List (ℕ × Row)) : Type 0 where
  pub allow : Allow facts transfer indices
  pub hold : Contain (add_transfer facts transfer) account_entries transfer_entries

-- the status of what a post or a void names
abbrev pub status_after : Bool → Status
status_after true = Posted
status_after false = Voided

-- whether a status is that of a transfer that still reserves its amount
abbrev pub is_open_status : Option Status → Bool
is_open_status (Some Pending) = true
is_open_status other = false

-- the transfer at an index reserves its amount
pub record CanExpire (facts : Facts) (account_entries : List (ℕ × Account)) (transfer_entries : List (ℕ × Row))
    (index : ℕ) : Type 0 where
  pub lawful : IsLawful facts
  pub grounded : AreGrounded facts
  pub ordered : facts.expired ≡ map (λ (transfer : Transfer). transfer.id)
      (filter (λ transfer. is_expired facts transfer.id) facts.transfers)
  pub hold : Contain facts account_entries transfer_entries
  pub transfer : Transfer
  pub at : slice_get facts.transfers index ≡ Some transfer
  pub reserves : is_reserving facts transfer ≡ true

-- the facts once one more transfer has expired, which has this id
abbrev pub expire_one : ℕ → Facts → Facts
expire_one id facts =
    record facts {
      expired = map (λ (transfer : Transfer). transfer.id)
          (filter (λ transfer. is_expired facts transfer.id || (id == transfer.id)) facts.transfers);
    }
