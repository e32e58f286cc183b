-- What is left of a text after its first word.
use Rattle.std.specs.Prelude.{◌≡◌, ◌==◌, not, ℕ, List}
use Rattle.std.specs.List.{position_or_len}
use Rattle.tb_program_text.specs.clauses.Text.{after_first_word, first_line, after_first_line}

-- the number of spaces at the front
abbrev pub spaces : List ℕ → ℕ
spaces text = position_or_len (λ byte. not (byte == 32)) text

-- a text without its first word: its first line is what follows the word, and the other lines are the same
pub record IsAfterFirstWord (text left : List ℕ) : Type 0 where
  pub rest : first_line left ≡ after_first_word (first_line text)
  pub others : after_first_line left ≡ after_first_line text
