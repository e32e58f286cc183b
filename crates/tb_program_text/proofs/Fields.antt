-- A line spelled from the fields of an event adds the bytes that are written of it.
use Rattle.std.proofs.Common.{◌≡◌, ℕ, zero, suc, ◌+◌, ◌-◌, ◌*◌, ◌/◌, ◌%◌, ◌^◌, ◌<◌, ◌≤◌, Bool, true, false, List, [], ◌∷◌, ◌++◌, length, take, drop, replicate, set, refl, sym, ap, ◌∙◌, arith, Some, Ok, Result, length-append, append_assoc, subst, lt-ltb}
use Rattle.tb_program_text.proofs.Words.{◌==◌, ◌&&◌, All, map, codes, decimal, nat_le, nat_lt, slice_index_or, is_some, not, list_all, byte_at, bytes_low_first, to_le_bytes, w128, drop-replicate, get_or-set_other, All-head, All-tail, list_all-append, and_parts, nat_tests, drop-append-add, take-append_seam, Fault, Draft, Layout, Keyword, Adds, SpelledAccountsAreLaidOut, SpelledTransfersAreLaidOut, SpelledIdsAreLaidOut, ParsedScript, may_stand, with_bytes, field, NamedNumber, IsOfItsSize, field_word, fields_line, line_of_words, named_of_account, named_of_transfer, fields_of, look_up, ◌>>=◌}
use Rattle.std.proofs.Math.Nat.{div-div-eq-div-mul, div-one, pow-suc, pow-le-pow_right}
use Rattle.tb_layout.specs.declared.account.Account.{Account}
use Rattle.tb_layout.specs.declared.transfer.Transfer.{Transfer}
use Rattle.tb_layout.specs.claim.BytesOfNumbers.{bytes_of, bytes_in_turn}
use Rattle.tb_program_text.specs.declared.event.Layout.TheVariants as layout
use Rattle.tb_program_text.specs.declared.keyword.Keyword.TheVariants as word
use Rattle.tb_program_text.specs.clauses.Keyword.{keyword_of}
use Rattle.tb_program_text.specs.clauses.Script.{with_line}
use Rattle.tb_program_text.specs.clauses.Event.{field_and_number, after_word, after_words, event_of}
use Rattle.tb_program_text.proofs.Named.{sides_of_named}
use Rattle.tb_program_text.proofs.Spelling.{is_word, is_word_byte, decimal_is_word, length-decimal, number_line, number_within-decimal, keyword_line, IsNamed, keyword_named}

-- ---- bytes

byte_at-pow : (index number : ℕ) → byte_at index number ≡ number / 256 ^ index % 256
byte_at-pow zero number = ap (λ (n : ℕ). n % 256) (sym (div-one number))
byte_at-pow (suc index) number = refl

low_bytes : (index size more number : ℕ) → take size (bytes_low_first index (size + more) number)
    ≡ bytes_of size (number / 256 ^ index)
unfolding bytes_of
low_bytes index zero more number = refl
low_bytes index (suc size) more number =
    let next : number / 256 ^ suc index ≡ number / 256 ^ index / 256 =
    ap (λ (p : ℕ). number / p) (pow-suc 256 index) ∙ sym (div-div-eq-div-mul number (256 ^ index) 256) in
    let count : suc size + more ≡ suc (size + more) = omega arith in
    ap (λ (n : ℕ). take (suc size) (bytes_low_first index n number)) count
    ∙ ap (λ (byte : ℕ). byte ∷ take size (bytes_low_first (suc index) (size + more) number)) (byte_at-pow index number)
    ∙ ap (λ bytes. number / 256 ^ index % 256 ∷ bytes)
    (low_bytes (suc index) size more number ∙ ap (bytes_of size) next)

pub lowest : (size number : ℕ) → size ≤ 16 → take size (to_le_bytes w128 number) ≡ bytes_of size number
lowest size number h =
    let all : size + (16 - size) ≡ 16 = omega (arith, h) in
    ap (λ (count : ℕ). take size (bytes_low_first 0 count number)) (sym all) ∙ low_bytes 0 size (16 - size) number
    ∙ ap (bytes_of size) (div-one number)

length-bytes_of : (size number : ℕ) → length (bytes_of size number) ≡ size
unfolding bytes_of
length-bytes_of zero number = refl
length-bytes_of (suc size) number = ap suc (length-bytes_of size (number / 256))

-- ---- fields in turn

-- what is known of a field at an index and an offset without its number
record IsFieldAt (layout : Layout) (index offset size : ℕ) (name : List ℕ) : Type 0 where
  found : look_up name (fields_of layout) ≡ Some (field index offset size)
  bare : list_all (λ byte. not (byte == 61)) name ≡ true
  small : size ≤ 16
  short : length name ≤ 24
  word : is_word name ≡ true

-- the fields from an index and an offset on
abbrev AreInTurn : Layout → ℕ → ℕ → List NamedNumber → Type 0
AreInTurn layout index offset [] = Unit {0}
AreInTurn layout index offset (field ∷ fields) =
    IsFieldAt layout index offset field.size field.name × AreInTurn layout (suc index) (offset + field.size) fields

abbrev size_of_fields : List NamedNumber → ℕ
size_of_fields [] = 0
size_of_fields (field ∷ fields) = field.size + size_of_fields fields

-- an event whose bytes before some offset were given
abbrev drafted : List ℕ → List Bool → Draft
drafted front given = record { bytes = front ++ replicate (128 - length front) 0; given = given }

abbrev bytes_after : Result Draft Fault → Result (List ℕ) Fault
bytes_after r = r >>= λ draft. Ok draft.bytes

abbrev sized : NamedNumber → ℕ × ℕ
sized field = (field.size, field.number)

abbrev NoneGivenFrom : ℕ → List Bool → Type 0
NoneGivenFrom index given = (later : ℕ) → index ≤ later → slice_index_or given later false ≡ false

fits : (size number : ℕ) → size ≤ 16 → number < 256 ^ size → number < 2 ^ 128
fits size number small h = omega (arith, h, pow-le-pow_right {n = 256} (omega arith) small)

module _ (layout : Layout) where
  one_field : {index : ℕ} (field : NamedNumber) (front : List ℕ) (given : List Bool)
      → IsFieldAt layout index (length front) field.size field.name →
      IsOfItsSize field → slice_index_or given index false ≡ false → length front + field.size ≤ 128 →
      after_word layout (drafted front given) (field_word field)
      ≡ Ok (drafted (front ++ bytes_of field.size field.number) (set given index true))
  unfolding after_word field_and_number
  one_field field front given is of_its_size unset room =
      let small = fits field.size field.number is.small of_its_size in
      let bytes = bytes_of field.size field.number in
      let tail : drop (length front + field.size) (front ++ replicate (128 - length front) 0)
      ≡ replicate (128 - length (front ++ bytes)) 0 =
      drop-append-add front (replicate (128 - length front) 0) field.size ∙ drop-replicate field.size (128 - length front) 0
      ∙ ap (λ (count : ℕ). replicate count 0) (omega
      (arith, length-append front bytes, length-bytes_of field.size field.number)) in
      rw (
        sides_of_named field.name (decimal field.number) is.bare,
        is.found,
        unset,
        number_within-decimal 0 (256 ^ field.size - 1) field.number (omega arith) (omega (arith, of_its_size)) small,
      )
      (rw (take-append_seam front (replicate (128 - length front) 0), lowest field.size field.number is.small, tail) refl)

  all_fields : (index : ℕ) (front : List ℕ) (given : List Bool) (fields : List NamedNumber)
      → AreInTurn layout index (length front) fields →
      All IsOfItsSize fields → NoneGivenFrom index given → length front + size_of_fields fields ≡ 128 →
      bytes_after (after_words layout (drafted front given) (map field_word fields))
      ≡ Ok (front ++ bytes_in_turn (map sized fields))
  unfolding after_words
  all_fields index front given [] turn of_their_sizes unset room =
      let none : 128 - length front ≡ 0 = omega (arith, room) in
      rw none refl
  all_fields index front given (field ∷ fields) turn of_their_sizes unset room =
      let bytes = bytes_of field.size field.number in
      let long : length (front ++ bytes) ≡ length front + field.size =
      omega (arith, length-append front bytes, length-bytes_of field.size field.number) in
      let still : NoneGivenFrom (suc index) (set given index true) = λ later after.
      get_or-set_other given index later true false (omega arith) ∙ unset later (omega arith) in
      rw (one_field field front given turn.0
      (All-head IsOfItsSize field fields of_their_sizes) (unset index (omega arith)) (omega (arith, room)))
      (all_fields (suc index) (front ++ bytes) (set given index true) fields
      (subst (λ (offset : ℕ). AreInTurn layout (suc index) offset fields) (sym long) turn.1)
      (All-tail IsOfItsSize field fields of_their_sizes) still (omega (arith, long, room))
      ∙ ap Ok (append_assoc front bytes (bytes_in_turn (map sized fields))))

-- ---- lines

field_is_word : (name : List ℕ) (number : ℕ) → is_word name ≡ true → number < 2 ^ 128
    → is_word (name ++ 61 ∷ decimal number) ≡ true
field_is_word name number good small =
    let front = (and_parts (nat_lt 0 (length name)) (list_all is_word_byte name) good).1 in
    let back = (and_parts (nat_lt 0 (length (decimal number))) (list_all is_word_byte (decimal number))
    (decimal_is_word number small)).1 in
    let some : 0 < length (name ++ 61 ∷ decimal number) = omega (arith, length-append name (61 ∷ decimal number)) in
    rw (lt-ltb 0 (length (name ++ 61 ∷ decimal number)) some)
    (list_all-append is_word_byte name (61 ∷ decimal number) ∙ rw (front, back) refl)

-- the words of fields, after a word
record AreGoodWords (keyword : List ℕ) (fields : List NamedNumber) : Type 0 where
  words : list_all is_word (map field_word fields) ≡ true
  short : length (line_of_words (keyword ∷ map field_word fields)) ≤ length keyword + 65 * length fields

none_given : (count later : ℕ) → slice_index_or (replicate count false) later false ≡ false
none_given zero later = refl
none_given (suc count) zero = refl
none_given (suc count) (suc later) = none_given count later

-- the line of a keyword whose words make an event
abbrev MakesEvents : Keyword → Layout → Type 0
MakesEvents keyword layout =
    (parsed : ParsedScript) → (may_stand parsed keyword ≡ is_some parsed.packet)
    × ((words : List (List ℕ)) → with_line parsed keyword words
    ≡ (event_of layout words >>= λ bytes. Ok (with_bytes parsed bytes)))

-- the fields of a whole event
abbrev AreWhole : Layout → List NamedNumber → Type 0
AreWhole layout fields = AreInTurn layout 0 0 fields × (size_of_fields fields ≡ 128) × (length fields ≡ 13)

module _ (layout : Layout) where
  good_words : (index offset : ℕ) (keyword : List ℕ) (fields : List NamedNumber)
      → AreInTurn layout index offset fields → All IsOfItsSize fields → AreGoodWords keyword fields
  good_words index offset keyword [] turn of_their_sizes = record { words = refl; short = omega arith }
  good_words index offset keyword (field ∷ fields) turn of_their_sizes =
      let small = fits field.size field.number turn.0.small (All-head IsOfItsSize field fields of_their_sizes) in
      let rest = good_words (suc index) (offset + field.size) (field_word field) fields turn.1
      (All-tail IsOfItsSize field fields of_their_sizes) in
      record {
        words = rw (field_is_word field.name field.number turn.0.word small, rest.words) refl;
        short = omega (
          arith,
          turn.0.short,
          rest.short,
          length-decimal field.number small,
          length-append field.name (61 ∷ decimal field.number),
          length-append keyword (32 ∷ line_of_words (map field_word (field ∷ fields))),
        );
      }

  event_is_laid_out : (fields : List NamedNumber) → AreWhole layout fields → All IsOfItsSize fields
      → event_of layout (map field_word fields) ≡ Ok (bytes_in_turn (map sized fields))
  unfolding event_of
  event_is_laid_out fields whole of_their_sizes = all_fields layout 0 [] (replicate 13 false) fields whole.0 of_their_sizes
      (λ later after. none_given 13 later) (omega (arith, whole.1))

  line_adds : {keyword : Keyword} (name : List ℕ) (fields : List NamedNumber) → AreWhole layout fields
      → All IsOfItsSize fields → MakesEvents keyword layout → IsNamed keyword name
      → Adds (fields_line name fields) (bytes_in_turn (map sized fields))
  line_adds name fields whole of_their_sizes makes named = λ parsed begun.
      let words = good_words 0 0 name fields whole.0 of_their_sizes in
      (keyword_line named parsed (map field_word fields) words.words (omega (arith, words.short, named.short, whole.2))
      ((makes parsed).0 ∙ begun)
      ((makes parsed).1 (map field_word fields) ∙ rw (event_is_laid_out fields whole of_their_sizes) refl)).read

at : {layout : Layout} {index offset size : ℕ} {name : List ℕ} → look_up name (fields_of layout) ≡ Some (field index offset size) →
    list_all (λ byte. not (byte == 61)) name ≡ true
    → (nat_le size 16 && (nat_le (length name) 24 && is_word name)) ≡ true →
    IsFieldAt layout index offset size name
at {layout} {index} {offset} {size} {name} found bare closed =
    let sized = and_parts (nat_le size 16) (nat_le (length name) 24 && is_word name) closed in
    let named = and_parts (nat_le (length name) 24) (is_word name) sized.1 in
    let small : size ≤ 16 = grind (arith, nat_tests, sized.0) in
    let short : length name ≤ 24 = grind (arith, nat_tests, named.0) in
    record { found = found; bare = bare; small = small; short = short; word = named.1 }

infixr 5 ◌⨾◌
◌⨾◌ : {A B : Type 0} → A → B → A × B
first ⨾ others = (first, others)

accounts_in_turn : (account : Account) → AreInTurn layout.Account 0 0 (named_of_account account)
accounts_in_turn account =
    at refl refl refl ⨾ at refl refl refl ⨾ at refl refl refl ⨾ at refl refl refl ⨾ at refl refl refl ⨾
    at refl refl refl ⨾ at refl refl refl ⨾ at refl refl refl ⨾ at refl refl refl ⨾ at refl refl refl ⨾
    at refl refl refl ⨾ at refl refl refl ⨾ at refl refl refl ⨾ tt

transfers_in_turn : (transfer : Transfer) → AreInTurn layout.Transfer 0 0 (named_of_transfer transfer)
transfers_in_turn transfer =
    at refl refl refl ⨾ at refl refl refl ⨾ at refl refl refl ⨾ at refl refl refl ⨾ at refl refl refl ⨾
    at refl refl refl ⨾ at refl refl refl ⨾ at refl refl refl ⨾ at refl refl refl ⨾ at refl refl refl ⨾
    at refl refl refl ⨾ at refl refl refl ⨾ at refl refl refl ⨾ tt

pub accounts_are_laid_out : SpelledAccountsAreLaidOut
unfolding keyword_of with_line
accounts_are_laid_out account h =
    line_adds layout.Account (codes "account") (named_of_account account) (accounts_in_turn account, refl, refl) h
    (λ parsed. (refl, λ words. refl)) (keyword_named word.Account (codes "account") refl (omega arith) refl refl)

pub transfers_are_laid_out : SpelledTransfersAreLaidOut
unfolding keyword_of with_line
transfers_are_laid_out transfer h =
    line_adds layout.Transfer (codes "transfer") (named_of_transfer transfer) (transfers_in_turn transfer, refl, refl) h
    (λ parsed. (refl, λ words. refl)) (keyword_named word.Transfer (codes "transfer") refl (omega arith) refl refl)

pub ids_are_laid_out : SpelledIdsAreLaidOut
unfolding keyword_of with_line
ids_are_laid_out id h parsed begun =
    let all : to_le_bytes w128 id ≡ bytes_of 16 id = lowest 16 id (omega arith) in
    let line = number_line (keyword_named word.Id (codes "id") refl (omega arith) refl refl) {parsed = parsed} 0 (2 ^ 128 - 1)
    (λ n. with_bytes parsed (to_le_bytes w128 n)) id (begun, omega arith, λ text. refl) (omega arith) (omega (arith, h)) in
    line.read ∙ rw all refl
