-- An output with the names of its codes, and how much of it failed.
use Rattle.std.specs.Prelude.{ℕ, ◌==◌, ◌||◌, List, [], ◌∷◌, ◌++◌, drop, codes, bytes_eq, flat_map, count_by, Option, Some, None, is_some, if◌then◌else◌}
use Rattle.std.specs.List.{position_or_len, slice_split}
use Rattle.std.specs.Result.{result_ok}
use Rattle.tb_layout.specs.clauses.AccountCodes as accounts
use Rattle.tb_layout.specs.clauses.TransferCodes as transfers
use Rattle.tb_layout.specs.claim.Events.{create_accounts, create_transfers}
use Rattle.tb_program_text.specs.clauses.Text.{lines_of, words_of}
use Rattle.tb_program_text.specs.clauses.Number.{number_within}

-- ---- the code of a failure

-- what follows the first colon of a word
abbrev pub after_colon : List ℕ → List ℕ
after_colon word = drop 1 (drop (position_or_len (λ byte. byte == 58) word) word)

-- the code of a failure: a number follows the first colon, as in 1:22; no other word has one
unfoldable pub code_in : List ℕ → Option ℕ
code_in word = result_ok (number_within 0 4294967295 (after_colon word))

-- ---- names

abbrev pub name_or_unknown : {Code : Type 0} → (Code → List ℕ) → Option Code → List ℕ
name_or_unknown name (Some code) = name code
name_or_unknown name None = codes "unknown"

-- the name that an operation gives a code
unfoldable pub name_of : ℕ → ℕ → List ℕ
name_of operation code =
    if operation == create_accounts then name_or_unknown accounts.name_of (accounts.code_of code)
    else if operation == create_transfers then name_or_unknown transfers.name_of (transfers.code_of code)
    else codes "unknown"

abbrev pub name_text : ℕ → Option ℕ → List ℕ
name_text operation (Some code) = codes ":" ++ name_of operation code
name_text operation None = []

-- a word; a failure has the name of its code, as 1:22:credit_account_not_found
abbrev pub named_word : ℕ → List ℕ → List ℕ
named_word operation word = word ++ name_text operation (code_in word)

abbrev pub named_words : ℕ → List (List ℕ) → List ℕ
named_words operation words = flat_map (λ word. codes " " ++ named_word operation word) words

-- the words of a line, divided by single spaces
abbrev pub named_line : ℕ → List (List ℕ) → List ℕ
named_line operation [] = []
named_line operation (word ∷ words) = word ++ named_words operation words

abbrev pub first_operation : List ℕ → ℕ
first_operation [] = 0
first_operation (operation ∷ operations) = operation

-- the lines of an output, of whose first lines these are the operations
unfoldable pub named_lines : List ℕ → List (List ℕ) → List ℕ
named_lines operations [] = []
named_lines operations (line ∷ lines) =
    named_line (first_operation operations) (words_of line) ++ codes "\n" ++ named_lines (drop 1 operations) lines

abbrev pub named_text : List ℕ → List ℕ → List ℕ
named_text operations text = named_lines operations (lines_of text)

-- ---- how much failed

abbrev pub all_words : List ℕ → List (List ℕ)
all_words text = slice_split (λ byte. (byte == 32) || (byte == 10)) text

-- the events that failed
abbrev pub failed_in : List ℕ → ℕ
failed_in text = count_by (λ word. is_some (code_in word)) (all_words text)

-- the packets and pulses that were refused
abbrev pub refused_in : List ℕ → ℕ
refused_in text = count_by (λ word. bytes_eq word (codes "refused")) (all_words text)

-- the packets that were queued and aren't committed
abbrev pub uncommitted_in : List ℕ → ℕ
uncommitted_in text =
    count_by (λ word. bytes_eq word (codes "shutdown") || bytes_eq word (codes "stopped")) (all_words text)
