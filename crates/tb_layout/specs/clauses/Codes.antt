-- Results with their names, found by their numbers.
use Rattle.std.specs.Prelude.{ℕ, ◌==◌, Option, Some, None, List, [], ◌∷◌, if◌then◌else◌}
use Rattle.std.specs.Borrow.{Bor}

-- the first of some rows whose result has a number
abbrev pub first_with : {Code Name : Type 0} → (Code → ℕ) → ℕ → List (Code × Name) → Option (Code × Name)
first_with number_of number [] = None
first_with number_of number ((code, name) ∷ rows) =
    if number_of code == number then Some (code, name) else first_with number_of number rows

abbrev pub code_in : {Code Name : Type 0} → Option (Code × Name) → Option Code
code_in None = None
code_in (Some row) = Some row.0

abbrev pub name_in : {Code : Type 0} → Option (Code × List ℕ) → List ℕ
name_in None = []
name_in (Some row) = row.1

-- a row of the code, whose name is behind a reference
abbrev pub read_row : {Code : Type 0} → Code × Bor (List ℕ) → Code × List ℕ
read_row row = (row.0, row.1.now)
