-- The field that a word names, and its number.
use Rattle.std.proofs.Common.{rules, ◌≡◌, ℕ, ◌+◌, ◌<◌, ◌≤◌, true, false, List, [], ◌∷◌, ◌++◌, length, take, drop, refl, ap, ◌∙◌, arith, ◌-◌, suc, Bor, Some, None, Option, Ok, Result, length-append, lt-ltb, le-ltb, inl, inr}
use Rattle.tb_program_text.proofs.Words.{◌==◌, All, map, first_line, NamedField, slice_index_or, not, bytes_eq, get_or, list_all, position_or_len, before_first, rest_after, cases_lt, false_from_ne_true, Decides-eqb, split_at_first, passes_at_first, All-drop, All-map, bytes_eq-Decides, drop-append-add, take-append_seam, get_or-append_seam, split_at, common_steps, Field, Fault, Draft, Layout, Account, Transfer, AreRowsOf, IsBare, Lies, fields_of, found, named, sides_of, ◌>>=◌, look_up, first_word, after_first_word, word_end, NamesField}
use Rattle.tb_program_text.specs.clauses.Event.{after_word, after_words, field_and_number}
use Rattle.tb_program_text.specs.clauses.Text.{words_of}
use Rattle.tb_program_text.proofs.FirstLines.{found_after}
use Rattle.tb_program_text.proofs.Texts.{words_first, empty_words}
use Rattle.tb_program_text.proofs.Steps.{both_done}
use Rattle.tb_program_text.proofs.Tables.{found_row}

pub sides_of_named : (name digits : List ℕ) → list_all (λ byte. not (byte == 61)) name ≡ true
    → sides_of (name ++ 61 ∷ digits) ≡ Ok (name, digits)
sides_of_named name digits h =
    let inside : length name < length (name ++ 61 ∷ digits) = omega (arith, length-append name (61 ∷ digits)) in
    let up_to : position_or_len (λ byte. byte == 61) (name ++ 61 ∷ digits) ≡ length name =
    found_after (λ byte. byte == 61) name (61 ∷ digits) h ∙ omega arith in
    rw (up_to, lt-ltb (length name) (length (name ++ 61 ∷ digits)) inside)
    (rw (take-append_seam name (61 ∷ digits), drop-append-add name (61 ∷ digits) 1) refl)

-- if the name and `=` are at the front, the row is the one
pub found_here : (word name number : List ℕ) (f : Field) (rows : List (List ℕ × Field)) → IsBare name
    → word ≡ name ++ 61 ∷ number →
    named word ((name, f) ∷ rows) ≡ Ok (f, number)
found_here word name number f rows bare e =
    let same : bytes_eq name name ≡ true = (bytes_eq-Decides name name).1 refl in
    rw (e, sides_of_named name number bare.0, same) refl

pub parts_of : (word : List ℕ) → position_or_len (λ byte. byte == 61) word < length word →
    word ≡ before_first (λ byte. byte == 61) word ++ (61 ∷ rest_after (λ byte. byte == 61) word)
parts_of word h =
    let at = split_at_first (λ byte. byte == 61) word 0 h in
    let sign = (Decides-eqb (get_or word (position_or_len (λ byte. byte == 61) word) 0) 61).0
    (passes_at_first (λ byte. byte == 61) word 0 h) in
    at ∙ ap (λ byte. before_first (λ byte. byte == 61) word ++ (byte ∷ rest_after (λ byte. byte == 61) word)) sign

-- if they don't, the others decide
pub found_later : (word name : List ℕ) (field : Field) (rows : List (List ℕ × Field))
    → ((number : List ℕ) → word ≡ name ++ 61 ∷ number → ⊥) →
    named word ((name, field) ∷ rows) ≡ named word rows
found_later word name field rows differs = elim (cases_lt (position_or_len (λ byte. byte == 61) word) (length word)) [
  | inl below ↦
      let other : bytes_eq (before_first (λ byte. byte == 61) word) name ≡ false =
      false_from_ne_true _ (λ same. differs (rest_after (λ byte. byte == 61) word)
      (parts_of word below ∙ ap (λ front. front ++ (61 ∷ rest_after (λ byte. byte == 61) word))
      ((bytes_eq-Decides (before_first (λ byte. byte == 61) word) name).0 same))) in
      rw (lt-ltb (position_or_len (λ byte. byte == 61) word) (length word) below, other) refl
  | inr above ↦ rw (le-ltb (position_or_len (λ byte. byte == 61) word) (length word) above) refl
]

-- a text that begins with a word and a byte that ends it
pub record BeginsWith (text word : List ℕ) (end : ℕ) : Type 0 where
  pub long : length word < length text
  pub sign : get_or text (length word) 0 ≡ end
  pub front : take (length word) text ≡ word

pub begins_with : (text word others : List ℕ) (end : ℕ) → text ≡ word ++ end ∷ others → BeginsWith text word end
begins_with text word others end e = record {
  long = rw e (omega (arith, length-append word (end ∷ others)));
  sign = rw e (get_or-append_seam word end others 0);
  front = rw e (take-append_seam word (end ∷ others));
}

pub after_sign : (text word : List ℕ) (end : ℕ) → BeginsWith text word end
    → text ≡ word ++ end ∷ take (length text - (length word + 1)) (drop (length word + 1) text)
after_sign text word end begins =
    let rest : take (length text - (length word + 1)) (drop (length word + 1) text)
    ≡ drop (length word + 1) text = grind (arith, common_steps) in
    let one : suc (length word) ≡ length word + 1 = omega arith in
    rw rest (split_at text (length word) 0 begins.long
    ∙ ap (λ front. front ++ get_or text (length word) 0 ∷ drop (suc (length word)) text) begins.front
    ∙ ap (λ byte. word ++ byte ∷ drop (suc (length word)) text) begins.sign
    ∙ ap (λ (count : ℕ). word ++ end ∷ drop count text) one)

abbrev pub row_of : Bor (List ℕ) × Field → List ℕ × Field
row_of row = (row.0.now, row.1)

-- a table is its first row and the others
pub first_of : (table : List (Bor (List ℕ) × Field)) (d : Bor (List ℕ) × Field) → 1 ≤ length table
    → table ≡ slice_index_or table 0 d ∷ take (length table - 1) (drop 1 table)
first_of [] d h = absurd (omega arith)
first_of (row ∷ rows) d h = let whole : take (suc (length rows) - 1) rows ≡ rows = grind (arith, common_steps) in rw whole refl

-- ---- one word after another

pub after_first : (layout : Layout) (draft : Draft) (line : List ℕ) (first : Result Draft Fault) → 0 < word_end line
    → after_word layout draft (first_word line) ≡ first →
    after_words layout draft (words_of line) ≡ (first >>= λ next. after_words layout next (words_of (after_first_word line)))
unfolding after_words
after_first layout draft line first some e = rw (words_first line some, e) refl

pub after_none : (layout : Layout) (draft : Draft) (line : List ℕ) → length line ≡ 0
    → after_words layout draft (words_of line) ≡ Ok draft
unfolding after_words
after_none layout draft line none = rw (empty_words line none) refl

-- ---- what a word names in some rows

-- rows from an index on are rows of the same table
pub rows_from : (layout : Layout) (rows : List (Bor (List ℕ) × Field)) (index size : ℕ) → size ≡ length rows
    → AreRowsOf layout rows → AreRowsOf layout (take (size - index) (drop index rows))
rows_from layout rows index size long are =
    let rest : take (size - index) (drop index rows) ≡ drop index rows = grind (arith, common_steps) in
    rw rest (
      All-drop (λ row. IsBare row.0.now) index rows are.0,
      All-drop (λ row. look_up row.0.now (fields_of layout) ≡ Some row.1) index rows are.1,
    )

-- a name that the rows have, before a `=`
pub record NamesRow (word : List ℕ) (rows : List (List ℕ × Field)) (both : Field × List ℕ) : Type 0 where
  pub name : List ℕ
  pub sides : sides_of word ≡ Ok (name, both.1)
  pub row : look_up name rows ≡ Some both.0

some_found : {Value : Type 0} (value : Option Value) {made : Value} → found value ≡ Ok made → value ≡ Some made
some_found None e = absurd (search (rules, e))
some_found (Some value) e = cc

pub names_row : (word : List ℕ) (rows : List (List ℕ × Field)) (both : Field × List ℕ) → named word rows ≡ Ok both
    → NamesRow word rows both
names_row word rows both is =
    let sides = both_done (sides_of word) (λ s. found (look_up s.0 rows) >>= λ f. Ok (f, s.1)) is in
    let row = both_done (found (look_up sides.between.0 rows)) (λ f. Ok (f, sides.between.1)) sides.ended in
    let same : (row.between, sides.between.1) ≡ both = cc in
    record {
      name = sides.between.0;
      sides = sides.began ∙ ap (λ (b : Field × List ℕ). Ok (sides.between.0, b.1)) same;
      row = some_found (look_up sides.between.0 rows) row.began ∙ ap (λ (b : Field × List ℕ). Some b.0) same;
    }

-- the field that a word names in some rows of a table is the one that it names in the table
pub named_among : (layout : Layout) (rows : List (Bor (List ℕ) × Field)) (text : List ℕ) (named_field : NamedField)
    → AreRowsOf layout rows → length rows ≤ 13
    → NamesField text (length rows) (named (first_word (first_line text)) (map row_of rows)) (Ok named_field)
    → NamesField text 13 (field_and_number layout (first_word (first_line text))) (Ok named_field)
unfolding field_and_number
named_among layout rows text named_field own few names =
    let is = names_row (first_word (first_line text)) (map row_of rows) _ names.both in
    record {
      both = rw (
        is.sides,
        found_row (λ word field. look_up word (fields_of layout) ≡ Some field) (map row_of rows) is.name _
            (All-map (λ row. look_up row.0 (fields_of layout) ≡ Some row.1) row_of rows own.1) is.row,
      ) refl;
      rest = names.rest;
      lines = names.lines;
      rows_after = omega (arith, names.rows_after, few);
    }

-- ---- the fields of a layout are within the event

fields_lie : (layout : Layout) → All (λ row. Lies row.1) (fields_of layout)
fields_lie Account = search rules
fields_lie Transfer = search rules

pub lies_of : (layout : Layout) (word : List ℕ) (both : Field × List ℕ) → field_and_number layout word ≡ Ok both → Lies both.0
unfolding field_and_number
lies_of layout word both e =
    let is = names_row word (fields_of layout) both e in
    found_row (λ name field. Lies field) (fields_of layout) is.name both.0 (fields_lie layout) is.row
