-- A line that is read in one pass.
use Rattle.std.specs.Prelude.{◌≡◌, List, ℕ, Option, Result, IfOk, IfSome}
use Rattle.std.specs.Borrow.{Bor}
use Rattle.std.specs.Option.{MatchOption}
use Rattle.tb_program_text.specs.clauses.Text.{after_first_line}

-- the first line of a text was taken, and the rest is what follows it; or it wasn't, and nothing changed
pub record TakesUsual {Fails : Type 0} (text : List ℕ) (same taken : Type 0) (result : Result (Option (Bor (List ℕ))) Fails)
    : Type 0 where
  pub line : IfOk result (λ usual. MatchOption usual same (λ left. taken))
  pub rest : IfOk result (λ usual. IfSome usual (λ left. left.now ≡ after_first_line text))
