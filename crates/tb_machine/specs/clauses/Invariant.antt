-- What is true of a machine between its calls.
use Rattle.std.specs.Prelude.{◌≡◌, ◌≤◌, ℕ, []}
use Rattle.tb_tables.specs.clauses.History.{History}
use Rattle.tb_layout.specs.claim.Limits.{clock_max}

-- the clock is in range, and nothing is left to be taken back
pub record IsMachine (clock : ℕ) (tables : History) : Type 0 where
  pub in_range : clock ≤ clock_max
  pub stands : tables.past ≡ []
