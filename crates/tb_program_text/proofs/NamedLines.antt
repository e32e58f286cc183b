-- The lines of an output, one after the other, with the names of their codes.
use Rattle.std.proofs.Common.{◌≡◌, ℕ, List, [], ◌∷◌, ◌++◌, length, drop, codes, refl}
use Rattle.tb_program_text.specs.clauses.Text.{lines_of, words_of}
use Rattle.tb_program_text.proofs.Words.{nil_from_length, first_operation, named_line}
use Rattle.tb_program_text.specs.clauses.Naming.{named_lines}

pub line_named : (operations : List ℕ) (all : List (List ℕ)) (line : List ℕ) (lines : List (List ℕ)) → all ≡ line ∷ lines
    → named_lines operations all
    ≡ named_line (first_operation operations) (words_of line) ++ codes "\n" ++ named_lines (drop 1 operations) lines
unfolding named_lines
line_named operations all line lines e = rw e refl

pub none_named : (operations bytes : List ℕ) → length bytes ≡ 0 → named_lines operations (lines_of bytes) ≡ []
unfolding named_lines lines_of
none_named operations bytes none = rw (nil_from_length bytes none) refl
