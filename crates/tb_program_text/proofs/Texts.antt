-- The first line of bytes, and the first word of a line.
use Rattle.std.proofs.Common.{◌≡◌, ℕ, ◌+◌, ◌<◌, Bool, true, false, cond, not, List, [], ◌∷◌, length, ◌++◌, take, drop, refl, sym, ap, ◌∙◌, arith, lt-ltb, inl, inr, Some, None, Option, ◌⊎◌, suc}
use Rattle.tb_program_text.proofs.Words.{◌==◌, ◌&&◌, All, filter, nat_lt, position, unwrap_or, position_or_len, slice_split, onto_first, list_all, common_steps, All-nil, All-cons, length-prefix_len, list_all-append, get_or-take, list_all-from_AllPass, prefix_len-le-length, prefix_len_passes, position_or_len_is, nil_from_length, and_parts, cases_lt, cond_below, false_from_ne_true}
use Rattle.memchr.specs.Find.{IsFirstByte, is_byte}
use Rattle.tb_program_text.specs.clauses.Text.{line_end, lines_of, word_end, words_of}
use Rattle.tb_program_text.specs.inside.FirstWord.{spaces}

-- what passes a test passes each that it implies
pub list_all-implied : (p q : ℕ → Bool) (xs : List ℕ) → ((x : ℕ) → p x ≡ true → q x ≡ true)
    → list_all p xs ≡ true → list_all q xs ≡ true
list_all-implied p q [] h all = refl
list_all-implied p q (x ∷ xs) h all =
    let parts = and_parts (p x) (list_all p xs) all in
    rw (h x parts.0, list_all-implied p q xs h parts.1) refl

pub all-implied : {X : Type 0} (p : X → Bool) (P : X → Type 0) (xs : List X) → ((x : X) → p x ≡ true → P x)
    → list_all p xs ≡ true → All P xs
all-implied p P [] h all = All-nil P
all-implied p P (x ∷ xs) h all =
    let parts = and_parts (p x) (list_all p xs) all in
    All-cons P x xs (h x parts.0) (all-implied p P xs h parts.1)

-- before the first that passes none does
pub none_before : (p : ℕ → Bool) (bs : List ℕ) → list_all (λ b. not (p b)) (take (position_or_len p bs) bs) ≡ true
none_before p bs =
    let count = position_or_len p bs in
    list_all-from_AllPass (λ b. not (p b)) (take count bs) (λ k d below.
    let inside : k < count = omega (arith, below, length-prefix_len (λ b. not (p b)) bs) in
    ap (λ b. not (p b)) (get_or-take count bs k d inside) ∙ prefix_len_passes (λ b. not (p b)) bs k d inside)

pub next_taken : (b n : ℕ) (bs : List ℕ) → take (1 + n) (b ∷ bs) ≡ b ∷ take n bs
next_taken b n bs = let one : 1 + n ≡ suc n = omega arith in rw one refl

next_dropped : (b n : ℕ) (bs : List ℕ) → drop (1 + n) (b ∷ bs) ≡ drop n bs
next_dropped b n bs = let one : 1 + n ≡ suc n = omega arith in rw one refl

pub lines_first : (bs : List ℕ) → 0 < length bs
    → lines_of bs ≡ take (line_end bs) bs ∷ lines_of (drop (line_end bs + 1) bs)
unfolding lines_of
lines_first [] h = absurd (omega arith)
lines_first (b ∷ []) h = grind (arith, common_steps)
lines_first (b ∷ c ∷ bs) h =
    let n = line_end (c ∷ bs) in
    grind (arith, common_steps, lines_first (c ∷ bs) (omega arith), next_taken b n (c ∷ bs), next_dropped b n (c ∷ bs))

abbrev pub some_words : List (List ℕ) → List (List ℕ)
some_words ws = filter (λ word. nat_lt 0 (length word)) ws

pub words_from_space : (b : ℕ) (bs : List ℕ) → (b == 32) ≡ true → words_of (b ∷ bs) ≡ words_of bs
unfolding words_of
words_from_space b bs h = rw h refl

-- spaces at the front don't matter
pub words_trimmed : (bs : List ℕ) → words_of bs ≡ words_of (drop (spaces bs) bs)
words_trimmed [] = refl
words_trimmed (b ∷ bs) = grind (arith, common_steps, words_from_space b bs, words_trimmed bs, next_dropped b (spaces bs) bs)

record Front (parts : List (List ℕ)) (n : ℕ) (bs : List ℕ) : Type 0 where
  others : List (List ℕ)
  parted : parts ≡ take n bs ∷ others
  words : some_words others ≡ words_of (drop n bs)

front_more : (space : Bool) (byte count : ℕ) (bytes : List ℕ) → space ≡ (byte == 32)
    → Front (slice_split (λ x. x == 32) bytes) count bytes
    → Front (cond space ([] ∷ slice_split (λ x. x == 32) bytes) (onto_first byte (slice_split (λ x. x == 32) bytes)))
    (cond (not space) (1 + count) 0) (byte ∷ bytes)
unfolding words_of
front_more true byte count bytes is begun =
    record { others = slice_split (λ x. x == 32) bytes; parted = refl; words = sym (words_from_space byte bytes (sym is)) }
front_more false byte count bytes is begun =
    let one : 1 + count ≡ suc count = omega arith in
    record {
      others = begun.others;
      parted = ap (onto_first byte) begun.parted ∙ rw one refl;
      words = begun.words ∙ rw one refl;
    }

front : (bs : List ℕ) → Front (slice_split (λ x. x == 32) bs) (word_end bs) bs
unfolding words_of
front [] = record { others = []; parted = refl; words = refl }
front (b ∷ bs) = front_more (b == 32) b (word_end bs) bs refl (front bs)

pub kept : (word : List ℕ) (ws : List (List ℕ)) → 0 < length word → some_words (word ∷ ws) ≡ word ∷ some_words ws
kept [] ws h = absurd (omega arith)
kept (b ∷ bs) ws h = rw (lt-ltb 0 (length (b ∷ bs)) h) refl

pub words_first : (bs : List ℕ) → 0 < word_end bs
    → words_of bs ≡ take (word_end bs) bs ∷ words_of (drop (word_end bs) bs)
unfolding words_of
words_first bs h =
    let f = front bs in
    let some : 0 < length (take (word_end bs) bs) = omega (arith, length-prefix_len (λ b. not (b == 32)) bs) in
    ap some_words f.parted ∙ kept (take (word_end bs) bs) f.others some ∙ ap (λ ws. take (word_end bs) bs ∷ ws) f.words

-- after the spaces there is nothing, or a word
pub trimmed_begins : (bs : List ℕ) → (length (drop (spaces bs) bs) ≡ 0) ⊎ (0 < word_end (drop (spaces bs) bs))
trimmed_begins [] = inl refl
trimmed_begins (b ∷ bs) = grind (arith, common_steps, trimmed_begins bs, next_dropped b (spaces bs) bs)

-- a line after its spaces begins with a word, unless it has no byte
pub some_word : (line : List ℕ) → (length line ≡ 0) ⊎ (0 < word_end line) → 0 < length line → 0 < word_end line
some_word line (inl none) some = absurd (omega (arith, none))
some_word line (inr word) some = word

-- no byte passes
pub nowhere : (p : ℕ → Bool) (bs : List ℕ) → position p bs ≡ None → position_or_len p bs ≡ length bs
nowhere p bs h = elim (cases_lt (position_or_len p bs) (length bs)) [
  | inl below ↦ let found = cond_below (position_or_len p bs) (length bs) (Some (position_or_len p bs)) None below in cc
  | inr above ↦ let most = prefix_len-le-length (λ x. not (p x)) bs in omega arith
]

-- what precedes the position that a search found, or everything
pub before_found : (byte : ℕ) (bs : List ℕ) (found : Option ℕ) → IsFirstByte (is_byte byte) bs found
    → position_or_len (λ b. b == byte) bs ≡ unwrap_or found (length bs)
before_found byte bs None h =
    position_or_len_is (λ b. b == byte) bs (length bs) 0 (omega arith)
    (λ k below. false_from_ne_true _ (h k (omega arith) below)) (λ below. absurd (omega (arith, below)))
before_found byte bs (Some i) h =
    position_or_len_is (λ b. b == byte) bs i 0 (omega (arith, h.0.high))
    (λ k below. false_from_ne_true _ (h.0.before k (omega arith) below)) (λ below. h.1)

pub empty_words : (line : List ℕ) → length line ≡ 0 → words_of line ≡ []
unfolding words_of
empty_words line none = rw (nil_from_length line none) refl

-- all bytes pass, and one more
pub all_and_next : (p : ℕ → Bool) (bs : List ℕ) (b : ℕ) (all : Bool) → all ≡ list_all p bs
    → (all && p b) ≡ list_all p (bs ++ b ∷ [])
all_and_next p bs b all so_far = grind (arith, common_steps, list_all-append)
