-- What a reader's bytes are: a script, or a fault.
use Rattle.std.specs.Prelude.{◌≡◌, ◌<◌, ◌≤◌, ℕ, nat_lt, if◌then◌else◌, Result, Ok, Err, List, length, codes, string_bytes}
use Rattle.tb_program_text.specs.declared.fault.Fault.{Fault}
use Rattle.tb_program_text.specs.declared.read.ScriptText.{ScriptText}
use Rattle.tb_program_text.specs.declared.read.ScriptText.TheVariants.{Whole, TooLong}
use Rattle.tb_program_text.specs.declared.source.Source.{Source}
use Rattle.tb_program_text.specs.declared.source.Source.TheVariants.{Script, Faulty}
use Rattle.tb_program_text.specs.clauses.Fault.{fault_text}
use Rattle.tb_program_text.specs.clauses.Output.{fault_line}
use Rattle.tb_program_text.specs.clauses.Script.{ParsedScript, script_of}

-- the most bytes of a script
abbrev pub script_max : ℕ
script_max = 16777216

-- a script, or the line that is printed of its first fault
abbrev pub source_or_line : Result ParsedScript (ℕ × Fault) → Result ParsedScript (List ℕ)
source_or_line (Ok parsed) = Ok parsed
source_or_line (Err (number, fault)) = Err (fault_line number (fault_text fault))

-- what bytes are, however many
abbrev pub source_in : List ℕ → Result ParsedScript (List ℕ)
source_in bytes =
    if nat_lt script_max (length bytes) then Err (fault_line 0 (codes "script too long"))
    else source_or_line (script_of bytes)

-- a source is what was found
abbrev pub IsFound : Source → Result ParsedScript (List ℕ) → Type 0
IsFound (Script parsed) found = found ≡ Ok parsed
IsFound (Faulty faulty) found = found ≡ Err (string_bytes faulty.line)

-- the text that was read is all of the bytes, or there are too many
abbrev pub IsWhole : ScriptText → List ℕ → Type 0
IsWhole (TooLong counted) bytes = script_max < length bytes
IsWhole (Whole text) bytes = (text.items ≡ bytes) × (length bytes ≤ script_max)
