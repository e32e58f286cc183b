-- Lines and words of bytes.
use Rattle.std.specs.Prelude.{ℕ, ◌==◌, List, [], ◌∷◌, length, take, drop, filter, if◌then◌else◌, nat_lt}
use Rattle.std.specs.List.{onto_first, slice_split, position_or_len}

-- the lines: each ends before a byte 10, and the last may lack it
unfoldable pub lines_of : List ℕ → List (List ℕ)
lines_of [] = []
lines_of (byte ∷ bytes) = if byte == 10 then [] ∷ lines_of bytes else onto_first byte (lines_of bytes)

-- the words of a line: what is between spaces, if it isn't empty
unfoldable pub words_of : List ℕ → List (List ℕ)
words_of line = filter (λ word. nat_lt 0 (length word)) (slice_split (λ byte. byte == 32) line)

-- the number of bytes before the first space
abbrev pub word_end : List ℕ → ℕ
word_end line = position_or_len (λ byte. byte == 32) line

-- the first word of a line that begins with one
abbrev pub first_word : List ℕ → List ℕ
first_word line = take (word_end line) line

-- what follows it
abbrev pub after_first_word : List ℕ → List ℕ
after_first_word line = drop (word_end line) line

-- the number of bytes before the first end of a line
abbrev pub line_end : List ℕ → ℕ
line_end text = position_or_len (λ byte. byte == 10) text

-- the first line of a text
abbrev pub first_line : List ℕ → List ℕ
first_line text = take (line_end text) text

-- what follows it: the byte that ends it, and the other lines
abbrev pub after_first_line : List ℕ → List ℕ
after_first_line text = drop (line_end text) text
