-- What is true of the facts at every moment.
use Rattle.std.specs.Prelude.{◌≡◌, ℕ, ◌<◌, ◌^◌, ◌==◌, Bool, true, not, ◌&&◌, List, [], ◌∷◌}
use Rattle.std.specs.List.{list_any}
use Rattle.tb_layout.specs.declared.transfer.Transfer.{Transfer}
use Rattle.tb_tables.specs.claim.Facts.{Facts}
use Rattle.tb_tables.specs.clauses.Balances.{debits, credits}

-- whether the id is that of one of the transfers
abbrev pub has_id : ℕ → List Transfer → Bool
has_id id transfers = list_any (λ (transfer : Transfer). transfer.id == id) transfers

abbrev pub ids_distinct : List Transfer → Bool
ids_distinct [] = true
ids_distinct (transfer ∷ transfers) = not (has_id transfer.id transfers) && ids_distinct transfers

-- no two transfers have one id, and each account's sums fit
pub record IsLawful (facts : Facts) : Type 0 where
  pub distinct : ids_distinct facts.transfers ≡ true
  pub debits_fit : (id : ℕ) → debits facts id < 2 ^ 128
  pub credits_fit : (id : ℕ) → credits facts id < 2 ^ 128
