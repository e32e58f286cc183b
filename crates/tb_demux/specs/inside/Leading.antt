-- The failures in front of an index.
use Rattle.std.specs.Prelude.{ℕ, suc, List, [], ◌∷◌, nat_lt, if◌then◌else◌}
use Rattle.tb_layout.specs.declared.failure.Failure.{Failure}

-- the number of failures before the first one whose index isn't below `end`
abbrev pub count_below : ℕ → List Failure → ℕ
count_below end [] = 0
count_below end (failure ∷ failures) = if nat_lt failure.index end then suc (count_below end failures) else 0
