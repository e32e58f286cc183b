-- Steps that may find a fault, and what code answers of them.
use Rattle.std.specs.Prelude.{◌≡◌, ℕ, List, [], ◌∷◌, Option, Some, None, Result, Ok, Err, bytes_eq, if◌then◌else◌}
use Rattle.tb_program_text.specs.declared.fault.Fault.{Fault}
use Rattle.tb_program_text.specs.declared.fault.LineError.{LineError}
use Rattle.tb_program_text.specs.declared.fault.LineError.TheVariants as errors

-- one step after another, up to the first fault
infixl 10 ◌>>=◌
abbrev pub ◌>>=◌ : {A B E : Type 0} → Result A E → (A → Result B E) → Result B E
(Ok x) >>= f = f x
(Err e) >>= f = Err e

-- the value that a table has for a word
abbrev pub look_up : {Value : Type 0} → List ℕ → List (List ℕ × Value) → Option Value
look_up word [] = None
look_up word ((name, value) ∷ rows) = if bytes_eq word name then Some value else look_up word rows

-- what a function returned, seen by a view, is the expected result
abbrev pub Tells : {X Y E : Type 0} → (X → Y) → Result X E → Result Y E → Type 0
Tells view (Ok x) result = result ≡ Ok (view x)
Tells view (Err e) result = result ≡ Err e

-- what a call left is the expected result
abbrev pub Makes : {X Y : Type 0} → Result X Fault → Y → Result Y Fault → Type 0
Makes result new expected = Tells (λ x. new) result expected

-- the fault that a function returned is the expected one, unless memory ran out
abbrev pub Fails : {Y : Type 0} → LineError → Result Y Fault → Type 0
Fails errors.NoMemory result = Unit {0}
Fails (errors.Fault fault) result = result ≡ Err fault

abbrev pub Gives : {X Y : Type 0} → (X → Y) → Result X LineError → Result Y Fault → Type 0
Gives view (Ok x) result = result ≡ Ok (view x)
Gives view (Err e) result = Fails e result

-- what a call left is the expected result, unless memory ran out
abbrev pub Leaves : {X Y : Type 0} → Result X LineError → Y → Result Y Fault → Type 0
Leaves result new expected = Gives (λ x. new) result expected
