-- What reading a script answers.
use Rattle.std.specs.Prelude.{◌≡◌, ℕ, Result, Ok, Err}
use Rattle.tb_program_text.specs.declared.fault.Fault.{Fault}
use Rattle.tb_program_text.specs.declared.parsing.ScriptError.{ScriptError}
use Rattle.tb_program_text.specs.declared.parsing.ScriptError.TheVariants.{NoMemory, Faulty}
use Rattle.tb_program_text.specs.clauses.Script.{ParsedScript}

abbrev pub FailsAt : ScriptError → Result ParsedScript (ℕ × Fault) → Type 0
FailsAt NoMemory result = Unit {0}
FailsAt (Faulty number fault) result = result ≡ Err (number, fault)

-- the result is the expected one, unless memory ran out
abbrev pub Parses : Result ParsedScript ScriptError → Result ParsedScript (ℕ × Fault) → Type 0
Parses (Ok parsed) result = result ≡ Ok parsed
Parses (Err e) result = FailsAt e result
