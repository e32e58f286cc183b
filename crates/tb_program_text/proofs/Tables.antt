-- What tables of words have for a word.
use Rattle.std.proofs.Common.{rules, ◌≡◌, Decides, cond, ℕ, Bool, true, false, List, [], ◌∷◌, refl, sym, subst, Some, Option}
use Rattle.tb_program_text.proofs.Words.{All, bytes_eq, All-head, All-tail, bytes_eq-Decides, look_up}

found_by : {Value : Type 0} (P : List ℕ → Value → Type 0) (same : Bool) (word : List ℕ) (row : List ℕ × Value) {value : Value}
    {others : Option Value} → Decides same (word ≡ row.0) → P row.0 row.1 → (others ≡ Some value → P word value)
    → cond same (Some row.1) others ≡ Some value → P word value
found_by P true word row decides holds later e =
    subst (P word) (search (rules, e)) (subst (λ name. P name row.1) (sym (decides.0 refl)) holds)
found_by P false word row decides holds later e = later e

-- what holds of each row holds of a word and the value that the table has for it
pub found_row : {Value : Type 0} (P : List ℕ → Value → Type 0) (rows : List (List ℕ × Value)) (word : List ℕ) (value : Value)
    → All (λ row. P row.0 row.1) rows → look_up word rows ≡ Some value → P word value
found_row P [] word value all e = absurd (search (rules, e))
found_row P (row ∷ rows) word value all e =
    found_by P (bytes_eq word row.0) word row (bytes_eq-Decides word row.0)
    (All-head (λ r. P r.0 r.1) row rows all) (found_row P rows word value (All-tail (λ r. P r.0 r.1) row rows all)) e
