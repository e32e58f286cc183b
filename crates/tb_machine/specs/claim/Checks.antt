-- Tables of checks.
use Rattle.std.specs.Prelude.{ℕ, Bool, not, ◌==◌, List, [], ◌∷◌, if◌then◌else◌}

-- the code of the first row that applies
abbrev pub first_row : {Code : Type 0} → List (Bool × Code) → Code → Code
first_row [] otherwise = otherwise
first_row ((applies, code) ∷ rows) otherwise = if applies then code else first_row rows otherwise

abbrev pub differ : ℕ → ℕ → Bool
differ a b = not (a == b)

abbrev pub u128_max : ℕ
u128_max = 340282366920938463463374607431768211455
