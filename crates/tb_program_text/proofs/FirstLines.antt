-- The first line of a text, and its first word.
use Rattle.std.proofs.Common.{◌≡◌, ℕ, ◌+◌, ◌<◌, ◌≤◌, Bool, true, false, not, List, [], ◌∷◌, length, ◌++◌, take, drop, refl, sym, ap, ◌∙◌, arith, inl, inr, ◌⊎◌, length-append, append_assoc, take-append-drop, length-take-le}
use Rattle.tb_program_text.proofs.Words.{◌==◌, ◌||◌, position_or_len, list_all, list_all-append, is_ascii_digit, common_steps, drop-drop, length-drop, nil_from_length, length-prefix_len, and_parts, drop-append-add, take-append-add, take-append_seam, drop-append_seam, before_first, first_line, after_first_line, first_word, line_end, word_end, spaces, IsAfterFirstWord}
use Rattle.tb_program_text.specs.clauses.Text.{lines_of, words_of}
use Rattle.tb_program_text.proofs.Texts.{list_all-implied, next_taken, none_before, lines_first, words_from_space, trimmed_begins}

-- what is first found after bytes that don't pass
pub found_after : (p : ℕ → Bool) (front others : List ℕ) → list_all (λ byte. not (p byte)) front ≡ true
    → position_or_len p (front ++ others) ≡ length front + position_or_len p others
found_after p [] others none = omega arith
found_after p (byte ∷ front) others none =
    let parts = and_parts (not (p byte)) (list_all (λ x. not (p x)) front) none in
    rw (parts.0, found_after p front others parts.1) (omega arith)

-- what is before a stop in a text begins with some bytes
pub record BeginsBefore (stop : ℕ → Bool) (text front others : List ℕ) : Type 0 where
  pub before : before_first stop text ≡ front ++ before_first stop others
  pub rest : drop (position_or_len stop text) text ≡ drop (position_or_len stop others) others

begins_before : (stop : ℕ → Bool) (text front others : List ℕ) → list_all (λ byte. not (stop byte)) front ≡ true
    → text ≡ front ++ others → BeginsBefore stop text front others
begins_before stop text front others none e =
    let at = found_after stop front others none in
    record {
      before = rw (e, at) (take-append-add front others (position_or_len stop others));
      rest = rw (e, at) (drop-append-add front others (position_or_len stop others));
    }

-- the same, with the bytes of the first line counted
cut_line : (text : List ℕ) (count : ℕ) → list_all (λ byte. not (byte == 10)) (take count text) ≡ true
    → BeginsBefore (λ byte. byte == 10) text (take count text) (drop count text)
cut_line text count none =
    begins_before (λ byte. byte == 10) text (take count text) (drop count text) none (sym (take-append-drop count text))

-- the same of a word and a sign after it
pub begins_signed : (stop : ℕ → Bool) (text word : List ℕ) (sign : ℕ) (others : List ℕ)
    → list_all (λ byte. not (stop byte)) word ≡ true → stop sign ≡ false → text ≡ word ++ sign ∷ others
    → BeginsBefore stop text (word ++ sign ∷ []) others
begins_signed stop text word sign others none passed e =
    begins_before stop text (word ++ sign ∷ []) others
    (list_all-append (λ byte. not (stop byte)) word (sign ∷ []) ∙ rw (none, passed) refl)
    (e ∙ sym (append_assoc word (sign ∷ []) others))

-- if a text doesn't begin so, what is before a stop in it doesn't either
pub not_signed : (stop : ℕ → Bool) (text word : List ℕ) (sign : ℕ) → ((others : List ℕ) → text ≡ word ++ sign ∷ others → ⊥)
    → (others : List ℕ) → before_first stop text ≡ word ++ sign ∷ others → ⊥
not_signed stop text word sign differs others e =
    let back = drop (position_or_len stop text) text in
    differs (others ++ back) (sym (take-append-drop (position_or_len stop text) text) ∙ ap (λ front. front ++ back) e
    ∙ append_assoc word (sign ∷ others) back)

-- a text is its first line and the rest
pub whole_text : (text : List ℕ) → first_line text ++ after_first_line text ≡ text
whole_text text = take-append-drop (line_end text) text

-- ---- spaces at the front

spaces_only : (bs : List ℕ) → list_all (λ byte. byte == 32) (take (spaces bs) bs) ≡ true
spaces_only bs =
    list_all-implied (λ byte. not (not (byte == 32))) (λ byte. byte == 32) (take (spaces bs) bs)
    (λ byte h. grind (arith, common_steps, h)) (none_before (λ byte. not (byte == 32)) bs)

no_end : (byte : ℕ) → (byte == 32) ≡ true → not (byte == 10) ≡ true
no_end byte h = grind (arith, common_steps, h)

words_after : (front others : List ℕ) → list_all (λ byte. byte == 32) front ≡ true → words_of (front ++ others) ≡ words_of others
words_after [] others h = refl
words_after (b ∷ front) others h =
    let parts = and_parts (b == 32) (list_all (λ byte. byte == 32) front) h in
    words_from_space b (front ++ others) parts.0 ∙ words_after front others parts.1

line_begins : (bs : List ℕ) → (length bs ≡ 0) ⊎ (0 < word_end bs)
    → (length (first_line bs) ≡ 0) ⊎ (0 < word_end (first_line bs))
line_begins [] h = inl refl
line_begins (b ∷ bs) (inl none) = absurd (omega (arith, none))
line_begins (b ∷ bs) (inr some) = grind (arith, common_steps, some, next_taken b (line_end bs) bs)

-- a text without the spaces at its front
pub record Trimmed (text rest : List ℕ) : Type 0 where
  pub words : words_of (first_line rest) ≡ words_of (first_line text)
  pub begins : (length (first_line rest) ≡ 0) ⊎ (0 < word_end (first_line rest))
  pub others : after_first_line rest ≡ after_first_line text
  pub within : length (first_line rest) ≤ length (first_line text)

pub trimmed_text : (text rest : List ℕ) → rest ≡ drop (spaces text) text → Trimmed text rest
trimmed_text text rest is =
    let only = spaces_only text in
    let cut = cut_line text (spaces text)
    (list_all-implied (λ byte. byte == 32) (λ byte. not (byte == 10)) (take (spaces text) text) no_end only) in
    rw is (record {
      words = sym (ap words_of cut.before ∙ words_after (take (spaces text) text) (first_line (drop (spaces text) text)) only);
      begins = line_begins (drop (spaces text) text) (trimmed_begins text);
      others = sym cut.rest;
      within = omega (
        arith,
        ap length cut.before,
        length-append (take (spaces text) text) (first_line (drop (spaces text) text)),
      );
    })

-- ---- the first word

abbrev pub ends_word : ℕ → Bool
ends_word byte = (byte == 32) || (byte == 10)

pub word_end_in_line : (bs : List ℕ) → position_or_len ends_word bs ≡ word_end (first_line bs)
word_end_in_line [] = refl
word_end_in_line (b ∷ bs) = grind (arith, common_steps, word_end_in_line bs, next_taken b (line_end bs) bs)

no_end_in_word : (byte : ℕ) → not (ends_word byte) ≡ true → not (byte == 10) ≡ true
no_end_in_word byte h = grind (arith, common_steps, h)

-- a text cut after its first word
pub record WordCut (text : List ℕ) (count : ℕ) : Type 0 where
  pub word : first_word (first_line text) ≡ take count text
  pub rest : IsAfterFirstWord text (drop count text)

pub word_cut : (text : List ℕ) (count : ℕ) → count ≤ length text → count ≡ position_or_len ends_word text → WordCut text count
word_cut text count within count_is =
    let front = take count text in
    let back = first_line (drop count text) in
    let before : list_all (λ byte. not (ends_word byte)) front ≡ true = rw count_is (none_before ends_word text) in
    let none = list_all-implied (λ byte. not (ends_word byte)) (λ byte. not (byte == 10)) front no_end_in_word before in
    let cut = cut_line text count none in
    let long : length front ≡ count = length-take-le count text within in
    let at : word_end (first_line text) ≡ length front = sym (word_end_in_line text) ∙ sym count_is ∙ sym long in
    record {
      word = ap (λ n. take n (first_line text)) at ∙ ap (take (length front)) cut.before ∙ take-append_seam front back;
      rest = record {
        rest = sym (ap (λ n. drop n (first_line text)) at ∙ ap (drop (length front)) cut.before ∙ drop-append_seam front back);
        others = sym cut.rest;
      };
    }

digit_ends_nothing : (byte : ℕ) → is_ascii_digit byte ≡ true → not (ends_word byte) ≡ true
digit_ends_nothing byte digit = grind (arith, common_steps, digit)

-- a text whose first word is digits
pub digits_first : (text : List ℕ) (count : ℕ) → count ≤ length text → list_all is_ascii_digit (take count text) ≡ true →
    length (first_word (first_line (drop count text))) ≡ 0 → WordCut text count
digits_first text count within digits ends =
    let rest = drop count text in
    let before = list_all-implied is_ascii_digit (λ byte. not (ends_word byte)) (take count text) digit_ends_nothing digits in
    let none = word_end_in_line rest ∙ sym (length-prefix_len (λ byte. not (byte == 32)) (first_line rest)) ∙ ends in
    let at = ap (position_or_len ends_word) (sym (take-append-drop count text)) ∙ found_after ends_word (take count text) rest before in
    word_cut text count within (omega (arith, at, none, length-take-le count text within))

-- a text whose first line has no byte
pub ends_at_once : (text : List ℕ) → length (first_line text) ≡ 0 → text ≡ after_first_line text
ends_at_once text none = sym (whole_text text) ∙ ap (λ front. front ++ after_first_line text) (nil_from_length (first_line text) none)

-- the lines of a text are the first and the others
pub record FirstOfLines (text others : List ℕ) : Type 0 where
  pub lines : lines_of text ≡ first_line text ∷ lines_of others
  pub shorter : length others < length text

pub first_of_lines : (text others : List ℕ) → 0 < length text → others ≡ drop 1 (after_first_line text) → FirstOfLines text others
first_of_lines text others some e =
    let remainder = e ∙ drop-drop 1 (line_end text) text in
    record {
      lines = lines_first text some ∙ ap (λ rest. first_line text ∷ lines_of rest) (sym remainder);
      shorter = omega (arith, ap length remainder, length-drop (line_end text + 1) text);
    }
