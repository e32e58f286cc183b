-- What `parse` answers for a word of digits.
use Rattle.std.proofs.Common.{◌≡◌, ℕ, zero, suc, ◌+◌, ◌-◌, ◌*◌, ◌/◌, ◌%◌, ◌<◌, ◌≤◌, ◌^◌, true, false, List, ◌∷◌, ◌++◌, length, take, get_or, refl, ap, ◌∙◌, arith, rules, lt-ltb, le-ltb, length-take-le, Some, None, Ok, Err, Result, inl, inr}
use Rattle.tb_program_text.proofs.Words.{list_all, is_ascii_digit, ParsesUnsigned, digits_value, IsAscii-from_digits, list_all_more, bytes_low_first, to_le_bytes, w64, w128, cases_lt, common_steps, fitting, first_word, after_first_word, word_end}
use Rattle.std.specs.Str.{IsUtf8}
use Rattle.std.specs.Result.{result_ok, OkIff}
use Rattle.std.proofs.lemmas.Str.{IsUtf8-from_ascii, digit_value_digit}
use Rattle.std.proofs.lemmas.Str.Parse.{IsNumeralModel, numerals_by_value, parse_digits, digits_value_short}
use Rattle.std.proofs.lemmas.Int.Digits.{digits_value_more}
use Rattle.std.proofs.lemmas.Nat.{le_bytes_8}
use Rattle.tb_program_text.specs.clauses.Number.{number_of}
use Rattle.tb_program_text.specs.clauses.Text.{words_of}
use Rattle.tb_program_text.proofs.Texts.{words_first}

pub own : IsNumeralModel (λ ds. list_all is_ascii_digit ds ≡ true) (digits_value 10)
own = numerals_by_value _ (search rules)

pub digits_are_text : (word : List ℕ) → list_all is_ascii_digit word ≡ true → IsUtf8 word
digits_are_text word digits = IsUtf8-from_ascii word (IsAscii-from_digits word (own.to word digits))

pub too_long : (word : List ℕ) → 40 ≤ length word → number_of word ≡ None
unfolding number_of
too_long word h = grind (arith, common_steps)

pub no_digits : (word : List ℕ) → list_all is_ascii_digit word ≡ false → number_of word ≡ None
unfolding number_of
no_digits word h = grind (arith, common_steps)

pub no_number : (word : List ℕ) → length word ≡ 0 → number_of word ≡ None
unfolding number_of
no_number word none = grind (arith, common_steps)

pub all_digits : (word : List ℕ) → 0 < length word → length word < 20 → list_all is_ascii_digit word ≡ true
    → number_of word ≡ Some (digits_value 10 word)
unfolding number_of
all_digits word some short digits =
    rw (lt-ltb 0 (length word) some, lt-ltb (length word) 40 (omega (arith, short)), digits) refl

-- the value of a word with one digit more, of 19 at most
pub record OneMore (word : List ℕ) (offset : ℕ) : Type 0 where
  pub digits : list_all is_ascii_digit (take (offset + 1) word) ≡ true
  pub value : digits_value 10 (take (offset + 1) word)
      ≡ 10 * digits_value 10 (take offset word) + (get_or word offset 0 - 48)
  pub small : digits_value 10 (take (offset + 1) word) < 10 ^ 19

pub one_more : (word : List ℕ) (offset : ℕ) → offset < length word → offset < 19
    → list_all is_ascii_digit (take offset word) ≡ true →
    is_ascii_digit (get_or word offset 0) ≡ true → OneMore word offset
one_more word offset within short digits digit =
    let more : list_all is_ascii_digit (take (offset + 1) word)
    ≡ true = list_all_more is_ascii_digit word offset 0 within ∙ rw (digits, digit) refl in
    record {
      digits = more;
      value = omega (
        arith,
        digits_value_more 10 word offset within,
        digit_value_digit (get_or word offset 0) (search (rules, digit)),
      );
      small = digits_value_short own (take (offset + 1) word) 19 more
          (omega (arith, length-take-le (offset + 1) word (omega arith), short, within));
    }

digits_read : {E : Type 0} (word : List ℕ) (result : Result ℕ E)
    → OkIff result ((0 < length word) × (digits_value 10 word < 2 ^ 128)) (digits_value 10 word) →
    list_all is_ascii_digit word ≡ true → length word < 40 → result_ok result ≡ fitting (number_of word)
unfolding number_of
digits_read word (Ok number) read digits short =
    rw (
      lt-ltb 0 (length word) read.0.0,
      lt-ltb (length word) 40 short,
      digits,
      lt-ltb (digits_value 10 word) (2 ^ 128) read.0.1,
    ) (ap Some read.1)
digits_read word (Err fault) read digits short = elim (cases_lt 0 (length word)) [
  | inl some ↦ elim (cases_lt (digits_value 10 word) (2 ^ 128)) [
    | inl small ↦ absurd (read (some, small))
    | inr large ↦ rw (
      lt-ltb 0 (length word) some,
      lt-ltb (length word) 40 short,
      digits,
      le-ltb (digits_value 10 word) (2 ^ 128) large,
    ) refl
  ]
  | inr none ↦ rw (le-ltb 0 (length word) none) refl
]

pub parsed : {E : Type 0} (word : List ℕ) (result : Result ℕ E) → ParsesUnsigned 128 10 word result →
    list_all is_ascii_digit word ≡ true → length word < 40 → result_ok result ≡ fitting (number_of word)
parsed word result parses digits short = digits_read word result (parse_digits own 128 word result parses digits) digits short

-- a line that begins with a number begins with a word
pub number_first : (line : List ℕ) (n : ℕ) → number_of (first_word line) ≡ Some n
    → words_of line ≡ first_word line ∷ words_of (after_first_word line)
number_first line n number = elim (cases_lt 0 (word_end line)) [
  | inl some ↦ words_first line some
  | inr none ↦
      let empty = no_number (first_word line) (omega (arith, length-take-le (word_end line) line (search rules), none)) in
      cc
]

-- ---- the bytes of a number from its halves

small : (count offset n k : ℕ) → get_or (bytes_low_first offset count n) k 0 < 256
small zero offset n k = omega arith
small (suc count) zero n zero = omega arith
small (suc count) (suc offset) n zero = omega arith
small (suc count) offset n (suc k) = small count (suc offset) n k

pub halves : (n : ℕ) → n < 2 ^ 128 → to_le_bytes w64 (n % 2 ^ 64) ++ to_le_bytes w64 (n / 2 ^ 64) ≡ to_le_bytes w128 n
halves n fits =
    let low : to_le_bytes w64 (n % 2 ^ 64) ≡ bytes_low_first 0 8 n = le_bytes_8 (bytes_low_first 0 8 n)
    (n % 2 ^ 64) refl (small 8 0 n) (omega arith) in
    let high : to_le_bytes w64 (n / 2 ^ 64) ≡ bytes_low_first 8 8 n = le_bytes_8 (bytes_low_first 8 8 n)
    (n / 2 ^ 64) refl (small 8 8 n) (omega (arith, fits)) in
    ap (λ bytes. bytes ++ to_le_bytes w64 (n / 2 ^ 64)) low ∙ ap (λ bytes. bytes_low_first 0 8 n ++ bytes) high
