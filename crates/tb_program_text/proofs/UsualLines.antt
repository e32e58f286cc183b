-- Lines without fault are text, and what they say.
use Rattle.std.proofs.Common.{Bor, ◌≡◌, ℕ, ◌+◌, ◌<◌, ◌≤◌, Bool, true, false, cond, not, List, [], ◌∷◌, length, ◌++◌, take, drop, refl, sym, ap, ◌∙◌, arith, rules, inl, inr, Some, None, Option, Ok, Err, Result, suc, lt-ltb, le-ltb, le-leb, take-append-drop, append_assoc}
use Rattle.tb_program_text.proofs.Words.{◌==◌, ◌&&◌, codes, is_some, map, after_first, before_first, list_all, onto_first, position_or_len, slice_split, is_ascii_digit, common_steps, list_all-append, and_parts, cases_lt, take-append_seam, drop-append_seam, Field, Draft, Layout, Account, Transfer, Keyword, blank, fields_of, look_up, named, new_field, put, sides_of, line_end, word_end, ParsedScript, is_text, is_text_byte, TakesUsual, line_max, may_stand, packet_numbers, with_bytes, with_event, with_words, ◌>>=◌, after_first_line, first_line}
use Rattle.tb_program_text.specs.declared.fault.Fault.TheVariants.{LineTooLong}
use Rattle.tb_program_text.specs.declared.keyword.Keyword.TheVariants as word
use Rattle.tb_program_text.specs.clauses.Event.{after_word, after_words, event_of, field_and_number}
use Rattle.tb_program_text.specs.clauses.Keyword.{keyword_of}
use Rattle.tb_program_text.specs.clauses.Number.{number_of}
use Rattle.tb_program_text.specs.clauses.Script.{after_line, with_line}
use Rattle.tb_program_text.specs.clauses.Text.{words_of}
use Rattle.tb_program_text.proofs.FirstLines.{begins_signed, found_after}
use Rattle.tb_program_text.proofs.Named.{names_row, parts_of}
use Rattle.tb_program_text.proofs.Spelling.{IsNamed, keyword_named, text_no_end}
use Rattle.tb_program_text.proofs.Steps.{both_done}
use Rattle.tb_program_text.proofs.Tables.{found_row}
use Rattle.tb_program_text.proofs.Texts.{all-implied, kept, list_all-implied, some_words, words_first, words_from_space}

-- what all elements pass, those after some do
pub all_dropped : (passes : ℕ → Bool) (bytes : List ℕ) (count : ℕ) → list_all passes bytes ≡ true
    → list_all passes (drop count bytes) ≡ true
all_dropped passes bytes count all =
    (and_parts (list_all passes (take count bytes)) (list_all passes (drop count bytes))
    (sym (list_all-append passes (take count bytes) (drop count bytes))
    ∙ ap (list_all passes) (take-append-drop count bytes) ∙ all)).1

-- ---- a line of text is one line

pub one_line : (line : List ℕ) → is_text line ≡ true → first_line line ≡ line
one_line [] h = refl
one_line (byte ∷ bytes) h =
    let parts = and_parts (is_text_byte byte) (is_text bytes) h in
    let one : 1 + line_end bytes ≡ suc (line_end bytes) = omega arith in
    rw (text_no_end byte parts.0, one) (ap (λ line. byte ∷ line) (one_line bytes parts.1))

-- ---- a line is text if its words are

text_space : (byte : ℕ) → (byte == 32) ≡ true → is_text_byte byte ≡ true
text_space byte h = grind (arith, common_steps, h)

longer : (first line others : Bool) → ((first && line) && others) ≡ (first && (line && others))
longer true line others = refl
longer false line others = refl

text_onto : (byte : ℕ) (parts : List (List ℕ))
    → list_all is_text (onto_first byte parts) ≡ (is_text_byte byte && list_all is_text parts)
text_onto byte [] = longer (is_text_byte byte) true true
text_onto byte (part ∷ parts) = longer (is_text_byte byte) (is_text part) (list_all is_text parts)

text_split : (space : Bool) (byte : ℕ) (parts : List (List ℕ)) → space ≡ (byte == 32) →
    list_all is_text (cond space ([] ∷ parts) (onto_first byte parts)) ≡ (is_text_byte byte && list_all is_text parts)
text_split true byte parts e = rw (text_space byte (sym e)) refl
text_split false byte parts e = text_onto byte parts

parts_are_text : (line : List ℕ) → list_all is_text (slice_split (λ byte. byte == 32) line) ≡ is_text line
parts_are_text [] = refl
parts_are_text (byte ∷ line) =
    text_split (byte == 32) byte (slice_split (λ b. b == 32) line) refl
    ∙ ap (λ others. is_text_byte byte && others) (parts_are_text line)

words_are_text : (parts : List (List ℕ)) → list_all is_text (some_words parts) ≡ list_all is_text parts
words_are_text [] = refl
words_are_text ([] ∷ parts) = words_are_text parts
words_are_text ((byte ∷ bytes) ∷ parts) =
    ap (list_all is_text) (kept (byte ∷ bytes) parts (omega arith))
    ∙ ap (λ others. is_text (byte ∷ bytes) && others) (words_are_text parts)

pub line_is_text : (line : List ℕ) → list_all is_text (words_of line) ≡ true → is_text line ≡ true
unfolding words_of
line_is_text line h =
    sym (parts_are_text line) ∙ sym (words_are_text (slice_split (λ byte. byte == 32) line)) ∙ h

-- ---- numbers are text

text_digit : (byte : ℕ) → is_ascii_digit byte ≡ true → is_text_byte byte ≡ true
text_digit byte h = grind (arith, common_steps, h)

number_is_text : (digits : List ℕ) (n : ℕ) → number_of digits ≡ Some n → is_text digits ≡ true
unfolding number_of
number_is_text digits n e =
    let all : list_all is_ascii_digit digits ≡ true = grind (arith, common_steps, e) in
    list_all-implied is_ascii_digit is_text_byte digits text_digit all

-- ---- the words of an event are text

names_are_text : (layout : Layout) → list_all (λ row. is_text row.0) (fields_of layout) ≡ true
names_are_text Account = refl
names_are_text Transfer = refl

field_is_text : (layout : Layout) (name : List ℕ) (field : Field) → look_up name (fields_of layout) ≡ Some field
    → is_text name ≡ true
field_is_text layout name field e =
    found_row (λ word value. is_text word ≡ true) (fields_of layout) name field (all-implied (λ row. is_text row.0)
    (λ row. is_text row.0 ≡ true) (fields_of layout) (λ row h. h) (names_are_text layout)) e

-- a number that was put was given
number_given : (draft : Draft) (field : Field) (number : Option ℕ) {next : Draft} → put draft field number ≡ Ok next
    → (n : ℕ) × (number ≡ Some n)
number_given draft field None e = absurd (search (rules, e))
number_given draft field (Some n) e = (n, refl)

-- a word is its sides with `=` between them
sides_are : (word : List ℕ) (sides : List ℕ × List ℕ) → sides_of word ≡ Ok sides → word ≡ sides.0 ++ 61 ∷ sides.1
sides_are word sides is = elim (cases_lt (position_or_len (λ byte. byte == 61) word) (length word)) [
  | inl below ↦
      let found = rw (lt-ltb (position_or_len (λ byte. byte == 61) word) (length word) below) at is in
      let same : (before_first (λ byte. byte == 61) word, after_first (λ byte. byte == 61) word) ≡ sides = cc found in
      parts_of word below ∙ ap (λ (s : List ℕ × List ℕ). s.0 ++ 61 ∷ s.1) same
  | inr above ↦
      let found = rw (le-ltb (position_or_len (λ byte. byte == 61) word) (length word) above) at is in
      absurd (search (rules, found))
]

word_is_text : (layout : Layout) (draft : Draft) {next : Draft} (word : List ℕ) → after_word layout draft word ≡ Ok next
    → is_text word ≡ true
unfolding after_word field_and_number
word_is_text layout draft word accepted =
    let named = both_done (named word (fields_of layout))
    (λ both. new_field draft both.0 >>= λ field. put draft field (number_of both.1)) accepted in
    let new = both_done (new_field draft named.between.0) (λ field. put draft field (number_of named.between.1)) named.ended in
    let number = number_given draft new.between (number_of named.between.1) new.ended in
    let is = names_row word (fields_of layout) named.between named.began in
    ap is_text (sides_are word (is.name, named.between.1) is.sides)
    ∙ list_all-append is_text_byte is.name (61 ∷ named.between.1)
    ∙ rw (field_is_text layout is.name named.between.0 is.row, number_is_text named.between.1 number.0 number.1) refl

event_is_text : (layout : Layout) (draft : Draft) {next : Draft} (words : List (List ℕ)) → after_words layout draft words ≡ Ok next
    → list_all is_text words ≡ true
unfolding after_words
event_is_text layout draft [] accepted = refl
event_is_text layout draft (word ∷ words) accepted =
    let both = both_done (after_word layout draft word) (λ next. after_words layout next words) accepted in
    rw (word_is_text layout draft word both.began, event_is_text layout both.between words both.ended) refl

-- ---- numbers

pub numbers_are_text : (words : List (List ℕ)) (numbers : List ℕ) → map number_of words ≡ map Some numbers
    → list_all is_text words ≡ true
numbers_are_text [] numbers e = refl
numbers_are_text (word ∷ words) [] e = absurd (search (rules, e))
numbers_are_text (word ∷ words) (n ∷ numbers) e =
    let here : number_of word ≡ Some n = cc in
    let later : map number_of words ≡ map Some numbers = cc in
    rw (number_is_text word n here, numbers_are_text words numbers later) refl

pub two_numbers : (most first second : ℕ) (words : List (List ℕ)) → map number_of words ≡ Some first ∷ Some second ∷ []
    → first ≤ most → second ≤ 255 → packet_numbers most words ≡ Ok (first, second)
two_numbers most first second [] are low high = cc
two_numbers most first second (word ∷ []) are low high = cc
two_numbers most first second (word ∷ next ∷ []) are low high =
    let here : number_of word ≡ Some first = cc in
    let later : number_of next ≡ Some second = cc in
    rw (here, later, le-leb 0 first (omega arith), le-leb first most low, le-leb 0 second (omega arith), le-leb second 255 high) refl
two_numbers most first second (word ∷ next ∷ more ∷ words) are low high = cc

-- ---- a line that begins with a keyword and a space

pub record KeywordFirst (text name rest : List ℕ) : Type 0 where
  pub line : first_line text ≡ name ++ 32 ∷ first_line rest
  pub words : words_of (first_line text) ≡ name ∷ words_of (first_line rest)
  pub others : after_first_line text ≡ after_first_line rest

pub keyword_first : (text name rest : List ℕ) → list_all (λ byte. not (byte == 10)) name ≡ true
    → list_all (λ byte. not (byte == 32)) name ≡ true → 0 < length name → text ≡ name ++ 32 ∷ rest → KeywordFirst text name rest
keyword_first text name rest none bare some is =
    let begun = begins_signed (λ byte. byte == 10) text name 32 rest none refl is in
    let line : first_line text ≡ name ++ 32 ∷ first_line rest = begun.before ∙ append_assoc name (32 ∷ []) (first_line rest) in
    let at : word_end (name ++ 32 ∷ first_line rest) ≡ length name
    = found_after (λ byte. byte == 32) name (32 ∷ first_line rest) bare ∙ omega arith in
    let long : 0 < word_end (name ++ 32 ∷ first_line rest) = rw at some in
    record {
      line = line;
      words = ap words_of line ∙ words_first (name ++ 32 ∷ first_line rest) long
          ∙ rw (at, take-append_seam name (32 ∷ first_line rest), drop-append_seam name (32 ∷ first_line rest))
          (ap (λ ws. name ∷ ws) (words_from_space 32 (first_line rest) refl));
      others = begun.rest;
    }

-- such a line, if its words are text and in their place
usual_line : (parsed : ParsedScript) {next : ParsedScript} {text name rest : List ℕ} {keyword : Keyword}
    → KeywordFirst text name rest → IsNamed keyword name → is_text name ≡ true → is_text (first_line rest) ≡ true →
    length (first_line text) ≤ line_max → may_stand parsed keyword ≡ true
    → with_line parsed keyword (words_of (first_line rest)) ≡ Ok next → after_line parsed (first_line text) ≡ Ok next
unfolding after_line
usual_line parsed {text} {name} {rest} first named text_name text_rest short stands says =
    let whole : is_text (first_line text) ≡ true = ap is_text first.line
    ∙ list_all-append is_text_byte name (32 ∷ first_line rest) ∙ rw (text_name, text_rest) refl in
    rw (le-ltb line_max (length (first_line text)) short, whole)
    (ap (with_words parsed) first.words ∙ rw (named.mark, named.is, stands) says)

-- the fields of an event are text
fields_are_text : (parsed next : ParsedScript) (layout : Layout) (line : List ℕ)
    → with_event parsed layout (words_of line) ≡ Ok next → is_text line ≡ true
unfolding event_of
fields_are_text parsed next layout line accepted =
    let draft = after_words layout blank (words_of line) in
    let event = both_done (draft >>= λ d. Ok d.bytes) (λ bytes. Ok (with_bytes parsed bytes)) accepted in
    line_is_text line (event_is_text layout blank (words_of line) (both_done draft (λ d. Ok d.bytes) event.began).began)

-- a line is taken if what follows its keyword and the space is
taken : {Fails : Type 0} {text name rest : List ℕ} {same known said : Type 0} (result : Result (Option (Bor (List ℕ))) Fails)
    → KeywordFirst text name rest → (known → said) → TakesUsual rest same known result → TakesUsual text same said result
taken (Err fails) first more h = record { line = tt; rest = tt }
taken (Ok None) first more h = record { line = h.line; rest = tt }
taken (Ok (Some left)) first more h = record { line = more h.line; rest = h.rest ∙ sym first.others }

module _ (parsed next : ParsedScript) (text rest : List ℕ) {Fails : Type 0} (result : Result (Option (Bor (List ℕ))) Fails) where
  -- the line was taken if it isn't too long
  abbrev Taken : Type 0
  Taken = TakesUsual text (next ≡ parsed) (length (first_line text) ≤ line_max → after_line parsed (first_line text) ≡ Ok next) result

  -- the fields after the keyword were taken
  abbrev EventTaken : Layout → Type 0
  EventTaken layout = TakesUsual rest (next ≡ parsed)
      ((is_some parsed.packet ≡ true) × (with_event parsed layout (words_of (first_line rest)) ≡ Ok next)) result

  pub usual_transfer : text ≡ codes "transfer" ++ 32 ∷ rest → EventTaken Transfer → Taken
  unfolding keyword_of with_line
  usual_transfer e h =
      let first = keyword_first text (codes "transfer") rest refl refl (omega arith) e in
      taken result first (λ event short. usual_line parsed first (keyword_named word.Transfer (codes "transfer") refl (omega arith) refl refl)
      refl (fields_are_text parsed next Transfer (first_line rest) event.1) short event.0 event.1) h

  pub usual_account : text ≡ codes "account" ++ 32 ∷ rest → EventTaken Account → Taken
  unfolding keyword_of with_line
  usual_account e h =
      let first = keyword_first text (codes "account") rest refl refl (omega arith) e in
      taken result first (λ event short. usual_line parsed first (keyword_named word.Account (codes "account") refl (omega arith) refl refl)
      refl (fields_are_text parsed next Account (first_line rest) event.1) short event.0 event.1) h

  pub usual_packet : text ≡ codes "packet" ++ 32 ∷ rest → TakesUsual rest (next ≡ parsed)
      ((is_text (first_line rest) ≡ true) × (with_line parsed word.Packet (words_of (first_line rest)) ≡ Ok next)) result → Taken
  unfolding keyword_of
  usual_packet e h =
      let first = keyword_first text (codes "packet") rest refl refl (omega arith) e in
      taken result first (λ packet short. usual_line parsed first (keyword_named word.Packet (codes "packet") refl (omega arith) refl refl)
      refl packet.0 short refl packet.1) h

pub too_long : (parsed : ParsedScript) (line : List ℕ) → line_max < length line → after_line parsed line ≡ Err LineTooLong
unfolding after_line
too_long parsed line long = rw (lt-ltb line_max (length line) long) refl
