-- What the definition of a script promises, in the words of its format.
use Rattle.std.specs.Prelude.{◌≡◌, ◌<◌, ℕ, ◌+◌, ◌^◌, true, false, List, ◌∷◌, ◌++◌, length, All, codes, Ok, Err, IsOk, is_some}
use Rattle.tb_layout.specs.declared.account.Account.{Account}
use Rattle.tb_layout.specs.declared.transfer.Transfer.{Transfer}
use Rattle.tb_layout.specs.clauses.Records.{account_bytes, transfer_bytes}
use Rattle.tb_layout.specs.claim.BytesOfNumbers.{bytes_of}
use Rattle.tb_program_text.specs.declared.fault.Fault.{Fault}
use Rattle.tb_program_text.specs.declared.item.Settings.{Settings}
use Rattle.tb_program_text.specs.declared.item.ScriptItem.{ScriptItem}
use Rattle.tb_program_text.specs.clauses.Script.{ParsedScript, after_line, after_lines, items_of, script_of, submitters_of, with_bytes}
use Rattle.tb_program_text.specs.clauses.Spelling.{spelling_of, CanBeSet, CanAllBeWritten, IsOfItsSize, named_of_account, named_of_transfer, fields_line, id_line}

-- if some lines have no fault and the next has one, that fault decides, whatever follows, with the number of its
-- line
abbrev pub FirstFaultDecides : Type 0
FirstFaultDecides =
    (number : ℕ) (parsed next : ParsedScript) (lines others : List (List ℕ)) (line : List ℕ) (fault : Fault) →
    after_lines number parsed lines ≡ Ok next → after_line next line ≡ Err fault →
    after_lines number parsed (lines ++ line ∷ others) ≡ Err (number + length lines, fault)

-- each line after lines without fault has none
abbrev pub NoLineIsFaulty : ℕ → ParsedScript → List (List ℕ) → Type 0
NoLineIsFaulty number parsed lines =
    (front back : List (List ℕ)) (line : List ℕ) (next : ParsedScript) →
    lines ≡ front ++ line ∷ back → after_lines number parsed front ≡ Ok next → IsOk (after_line next line)

-- if no line is faulty, the lines have no fault
abbrev pub FaultlessLinesAreParsed : Type 0
FaultlessLinesAreParsed =
    (number : ℕ) (parsed : ParsedScript) (lines : List (List ℕ)) → NoLineIsFaulty number parsed lines
    → IsOk (after_lines number parsed lines)

-- a script spelled from settings and items is read as these
abbrev pub IsReadAsSpelled : Settings → List ScriptItem → Type 0
IsReadAsSpelled settings items =
    (parsed : ParsedScript) × (script_of (spelling_of settings items) ≡ Ok parsed) × (parsed.settings ≡ settings)
    × (items_of parsed ≡ items)

abbrev pub SpelledScriptsAreRead : Type 0
SpelledScriptsAreRead =
    (settings : Settings) (items : List ScriptItem) → CanBeSet settings → CanAllBeWritten (submitters_of settings) false items →
    IsReadAsSpelled settings items

-- after a packet's line, this line adds these bytes to the packet
abbrev pub Adds : List ℕ → List ℕ → Type 0
Adds line bytes = (parsed : ParsedScript) → is_some parsed.packet ≡ true → after_line parsed line ≡ Ok (with_bytes parsed bytes)

-- a line spelled from an account adds its bytes as they are laid out; so do a transfer's and an id's
abbrev pub SpelledAccountsAreLaidOut : Type 0
SpelledAccountsAreLaidOut =
    (account : Account) → All IsOfItsSize (named_of_account account) →
    Adds (fields_line (codes "account") (named_of_account account)) (account_bytes account)

abbrev pub SpelledTransfersAreLaidOut : Type 0
SpelledTransfersAreLaidOut =
    (transfer : Transfer) → All IsOfItsSize (named_of_transfer transfer) →
    Adds (fields_line (codes "transfer") (named_of_transfer transfer)) (transfer_bytes transfer)

abbrev pub SpelledIdsAreLaidOut : Type 0
SpelledIdsAreLaidOut = (id : ℕ) → id < 256 ^ 16 → Adds (id_line id) (bytes_of 16 id)
