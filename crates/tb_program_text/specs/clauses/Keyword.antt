-- The words that begin lines, and how many words may follow.
use Rattle.std.specs.Prelude.{ℕ, List, [], ◌∷◌, Option, Result, Ok, Err, codes}
use Rattle.tb_program_text.specs.declared.fault.Fault.{Fault}
use Rattle.tb_program_text.specs.declared.fault.Fault.TheVariants.{WrongNumberOfWords}
use Rattle.tb_program_text.specs.declared.keyword.Keyword.{Keyword}
use Rattle.tb_program_text.specs.declared.keyword.Keyword.TheVariants.{Clock, Limit, Capacity, Credit, Submitters, Packet, Account, Transfer, Id, Hex, Pulse, Shut}
use Rattle.tb_program_text.specs.clauses.Steps.{look_up}

abbrev pub keywords : List (List ℕ × Keyword)
keywords =
    (codes "transfer", Transfer) ∷
    (codes "packet", Packet) ∷
    (codes "account", Account) ∷
    (codes "id", Id) ∷
    (codes "pulse", Pulse) ∷
    (codes "hex", Hex) ∷
    (codes "shut", Shut) ∷
    (codes "clock", Clock) ∷
    (codes "limit", Limit) ∷
    (codes "capacity", Capacity) ∷
    (codes "credit", Credit) ∷
    (codes "submitters", Submitters) ∷
    []

unfoldable pub keyword_of : List ℕ → Option Keyword
keyword_of word = look_up word keywords

abbrev pub no_word : List (List ℕ) → Result (List ℕ) Fault
no_word [] = Ok []
no_word (word ∷ words) = Err WrongNumberOfWords

abbrev pub one_word : List (List ℕ) → Result (List ℕ) Fault
one_word [] = Err WrongNumberOfWords
one_word (word ∷ []) = Ok word
one_word (word ∷ more ∷ words) = Err WrongNumberOfWords

abbrev pub two_words : List (List ℕ) → Result (List ℕ × List ℕ) Fault
two_words [] = Err WrongNumberOfWords
two_words (word ∷ []) = Err WrongNumberOfWords
two_words (word ∷ more ∷ []) = Ok (word, more)
two_words (word ∷ more ∷ another ∷ words) = Err WrongNumberOfWords
