-- What is spelled is read.
use Rattle.std.proofs.Common.{◌≡◌, ℕ, suc, ◌+◌, ◌-◌, ◌/◌, ◌%◌, ◌^◌, ◌<◌, ◌≤◌, Bool, true, false, List, [], ◌∷◌, ◌++◌, length, map, refl, sym, ap, ◌∙◌, arith, Some, None, Option, Ok, length-append, subst, append_assoc, lt-ltb, le-ltb, zero, append-nil}
use Rattle.tb_program_text.proofs.Words.{◌==◌, ◌&&◌, nat_le, nat_lt, filter, codes, decimal, slice_index, All, unwrap_or, list_all, flat_map, is_ascii_digit, digits_value, list_all-append, All-head, All-tail, AllPass-from_list_all, and_parts, nat_tests, decimal_is_IsNumeral_wide, length-decimal-le_wide, Keyword, number_within, ◌>>=◌, ParsedScript, nothing_parsed, items_of, may_stand, is_text, is_text_byte, with_words, with_pulse, with_close, submitters_of, line_of_words, text_of_lines, setting_lines, settings_lines, byte_line, packet_lines, item_lines, IsWithin, CanBeSet, CanBeSubmitted, CanBeWritten, CanAllBeWritten, shut_by, SpelledScriptsAreRead}
use Rattle.std.proofs.lemmas.List.Splits.{slice_split_at, slice_split_none}
use Rattle.hex.specs.Hex.{IsBytes, encode_lower, encode_with, lower_digits}
use Rattle.hex.proofs.HexLemmas.{decode_of-encode_lower}
use Rattle.tb_program_text.specs.declared.keyword.Keyword.TheVariants as word
use Rattle.tb_program_text.specs.declared.item.Settings.{Settings}
use Rattle.tb_program_text.specs.declared.item.ScriptItem.{ScriptItem}
use Rattle.tb_program_text.specs.declared.item.ScriptItem.TheVariants.{Packet, Pulse, Shut}
use Rattle.tb_program_text.specs.clauses.Text.{lines_of, words_of}
use Rattle.tb_program_text.specs.clauses.Number.{number_of}
use Rattle.tb_program_text.specs.clauses.Keyword.{keyword_of}
use Rattle.tb_program_text.specs.clauses.Event.{hex_bytes}
use Rattle.tb_layout.specs.claim.Bounds.{batch_max, capacity_max, submitters_max}
use Rattle.tb_layout.specs.claim.Limits.{clock_max}
use Rattle.tb_work.specs.declared.packet.Packet as packets
use Rattle.tb_program_text.specs.clauses.Script.{with_line, after_line, after_lines}
use Rattle.tb_program_text.proofs.Lines.{after_lines-append}
use Rattle.tb_program_text.proofs.Numbers.{own}
use Rattle.tb_program_text.proofs.Texts.{all-implied, list_all-implied}

-- ---- words

abbrev pub is_word_byte : ℕ → Bool
is_word_byte byte = nat_le 33 byte && nat_le byte 126

abbrev pub is_word : List ℕ → Bool
is_word word = nat_lt 0 (length word) && list_all is_word_byte word

word_is_text : (x : ℕ) → is_word_byte x ≡ true → is_text_byte x ≡ true
word_is_text x h = grind (arith, nat_tests)

no_space : (x : ℕ) → is_word_byte x ≡ true → (x == 32) ≡ false
no_space x h = grind (arith, nat_tests)

pub text_no_end : (x : ℕ) → is_text_byte x ≡ true → (x == 10) ≡ false
text_no_end x h = grind (arith, nat_tests)

digit_is_word : (x : ℕ) → is_ascii_digit x ≡ true → is_word_byte x ≡ true
digit_is_word x h = grind (arith, nat_tests)

words_of-line_of_words : (words : List (List ℕ)) → list_all is_word words ≡ true
    → words_of (line_of_words words) ≡ words
unfolding words_of
words_of-line_of_words [] are_words = refl
words_of-line_of_words (word ∷ []) are_words =
    let parts = and_parts (nat_lt 0 (length word)) (list_all is_word_byte word) (and_parts (is_word word) true are_words).0 in
    ap (filter (λ w. nat_lt 0 (length w))) (slice_split_none (λ b. b == 32) word
    (all-implied is_word_byte (λ x. (x == 32) ≡ false) word no_space parts.1))
    ∙ rw parts.0 refl
words_of-line_of_words (word ∷ next ∷ words) are_words =
    let both = and_parts (is_word word) (list_all is_word (next ∷ words)) are_words in
    let parts = and_parts (nat_lt 0 (length word)) (list_all is_word_byte word) both.0 in
    ap (filter (λ w. nat_lt 0 (length w))) (slice_split_at (λ b. b == 32) word 32 (line_of_words (next ∷ words))
    (all-implied is_word_byte (λ x. (x == 32) ≡ false) word no_space parts.1) refl)
    ∙ rw parts.0 (ap (λ ws. word ∷ ws) (words_of-line_of_words (next ∷ words) both.1))

is_text-line_of_words : (words : List (List ℕ)) → list_all is_word words ≡ true → is_text (line_of_words words) ≡ true
is_text-line_of_words [] are_words = refl
is_text-line_of_words (word ∷ []) are_words =
    list_all-implied is_word_byte is_text_byte word word_is_text
    (and_parts (nat_lt 0 (length word)) (list_all is_word_byte word) (and_parts (is_word word) true are_words).0).1
is_text-line_of_words (word ∷ next ∷ words) are_words =
    let both = and_parts (is_word word) (list_all is_word (next ∷ words)) are_words in
    let front = list_all-implied is_word_byte is_text_byte word word_is_text
    (and_parts (nat_lt 0 (length word)) (list_all is_word_byte word) both.0).1 in
    list_all-append is_text_byte word (32 ∷ line_of_words (next ∷ words))
    ∙ rw (front, is_text-line_of_words (next ∷ words) both.1) refl

-- ---- lines

lines_of-one_more : (line rest : List ℕ) → is_text line ≡ true → lines_of (line ++ 10 ∷ rest) ≡ line ∷ lines_of rest
unfolding lines_of
lines_of-one_more [] rest h = refl
lines_of-one_more (b ∷ line) rest h =
    let parts = and_parts (is_text_byte b) (is_text line) h in
    rw (text_no_end b parts.0, lines_of-one_more line rest parts.1) refl

lines_of-text_of_lines : (lines : List (List ℕ)) → list_all is_text lines ≡ true
    → lines_of (text_of_lines lines) ≡ lines
unfolding lines_of
lines_of-text_of_lines [] h = refl
lines_of-text_of_lines (line ∷ lines) h =
    let parts = and_parts (is_text line) (list_all is_text lines) h in
    lines_of-one_more line (text_of_lines lines) parts.0 ∙ ap (λ ls. line ∷ ls) (lines_of-text_of_lines lines parts.1)

-- lines that lead from one state to another, wherever they are
record Says (parsed : ParsedScript) (lines : List (List ℕ)) (next : ParsedScript) : Type 0 where
  text : list_all is_text lines ≡ true
  read : (number : ℕ) → after_lines number parsed lines ≡ Ok next

says_nothing : (parsed : ParsedScript) → Says parsed [] parsed
unfolding after_lines
says_nothing parsed = record { text = refl; read = λ number. refl }

-- a line that does so
pub record SaysLine (parsed : ParsedScript) (line : List ℕ) (next : ParsedScript) : Type 0 where
  pub text : is_text line ≡ true
  pub read : after_line parsed line ≡ Ok next

says_more : (parsed between next : ParsedScript) (line : List ℕ) (lines : List (List ℕ)) → SaysLine parsed line between
    → Says between lines next → Says parsed (line ∷ lines) next
unfolding after_lines
says_more parsed between next line lines first rest = record {
  text = rw (first.text, rest.text) refl;
  read = λ number. rw first.read (rest.read (number + 1));
}

says_line : (parsed next : ParsedScript) (line : List ℕ) → SaysLine parsed line next → Says parsed (line ∷ []) next
says_line parsed next line says = says_more parsed next next line [] says (says_nothing next)

says_both : (parsed between next : ParsedScript) (front back : List (List ℕ)) → Says parsed front between
    → Says between back next → Says parsed (front ++ back) next
says_both parsed between next front back first second = record {
  text = list_all-append is_text front back ∙ rw (first.text, second.text) refl;
  read = λ number. after_lines-append number parsed between front back (first.read number)
      ∙ second.read (number + length front);
}

-- a keyword and its name: a short word that begins no comment
pub record IsNamed (keyword : Keyword) (name : List ℕ) : Type 0 where
  pub word : is_word name ≡ true
  pub short : length name ≤ 16
  pub mark : (slice_index name 0 == 35) ≡ false
  pub is : keyword_of name ≡ Some keyword

pub keyword_named : (keyword : Keyword) (name : List ℕ) → is_word name ≡ true → length name ≤ 16
    → (slice_index name 0 == 35) ≡ false → keyword_of name ≡ Some keyword → IsNamed keyword name
keyword_named keyword name word short mark is = record { word = word; short = short; mark = mark; is = is }

-- ---- numbers

-- what a number is spelled as
record IsSpelled (n : ℕ) : Type 0 where
  some : 0 < length (decimal n)
  short : length (decimal n) ≤ 39
  digits : list_all is_ascii_digit (decimal n) ≡ true
  value : digits_value 10 (decimal n) ≡ n

spelled : (number : ℕ) → number < 2 ^ 128 → IsSpelled number
spelled number small =
    let numeral = decimal_is_IsNumeral_wide number (omega (arith, small)) in
    record {
      some = numeral.0.0;
      short = length-decimal-le_wide 39 number (omega arith) (omega (arith, small)) (omega (arith, small));
      digits = own.from (decimal number) numeral.0.1;
      value = own.same (decimal number) numeral.0.1 ∙ numeral.1;
    }

pub decimal_is_word : (number : ℕ) → number < 2 ^ 128 → is_word (decimal number) ≡ true
decimal_is_word number small =
    let is = spelled number small in
    rw (lt-ltb 0 (length (decimal number)) is.some) (list_all-implied is_ascii_digit is_word_byte
    (decimal number) digit_is_word is.digits)

pub length-decimal : (number : ℕ) → number < 2 ^ 128 → length (decimal number) ≤ 39
length-decimal number small = (spelled number small).short

pub number_within-decimal : (low high number : ℕ) → low ≤ number → number ≤ high → number < 2 ^ 128
    → number_within low high (decimal number) ≡ Ok number
unfolding number_of
number_within-decimal low high number above below small =
    let is = spelled number small in
    rw (
      lt-ltb 0 (length (decimal number)) is.some,
      lt-ltb (length (decimal number)) 40 (omega (arith, is.short)),
      is.digits,
      is.value,
    ) (grind (arith, nat_tests))

-- ---- lines that begin with a keyword

-- a line of the keyword may stand here, and its number within bounds leads to a state
abbrev TakesNumber : ParsedScript → Keyword → ℕ → ℕ → (ℕ → ParsedScript) → Type 0
TakesNumber parsed keyword low high to =
    (may_stand parsed keyword ≡ true) × (high < 2 ^ 128)
    × ((text : List ℕ) → with_line parsed keyword (text ∷ []) ≡ (number_within low high text >>= λ n. Ok (to n)))

module _ {keyword : Keyword} {name : List ℕ} (named : IsNamed keyword name) where
  pub keyword_line : (parsed : ParsedScript) {next : ParsedScript} (words : List (List ℕ)) → list_all is_word words ≡ true
      → length (line_of_words (name ∷ words)) ≤ 65536 → may_stand parsed keyword ≡ true
      → with_line parsed keyword words ≡ Ok next → SaysLine parsed (line_of_words (name ∷ words)) next
  unfolding after_line
  keyword_line parsed words good short stands says =
      let all : list_all is_word (name ∷ words) ≡ true = rw (named.word, good) refl in
      record {
        text = is_text-line_of_words (name ∷ words) all;
        read = rw (le-ltb 65536 (length (line_of_words (name ∷ words))) short, is_text-line_of_words (name ∷ words) all)
            (ap (with_words parsed) (words_of-line_of_words (name ∷ words) all)
            ∙ rw (named.mark, named.is, stands) says);
      }

  -- of a number in its bounds
  pub number_line : {parsed : ParsedScript} (low high : ℕ) (to : ℕ → ParsedScript) (number : ℕ)
      → TakesNumber parsed keyword low high to → low ≤ number → number ≤ high
      → SaysLine parsed (line_of_words (name ∷ decimal number ∷ [])) (to number)
  number_line low high to number takes above below =
      let small : number < 2 ^ 128 = omega (arith, takes.1, below) in
      keyword_line _ (decimal number ∷ []) (rw (decimal_is_word number small) refl)
      (omega (arith, named.short, length-append name (32 ∷ decimal number), length-decimal number small)) takes.0
      (takes.2 (decimal number) ∙ rw (number_within-decimal low high number above below small) refl)

  -- of a setting, if it is given
  says_setting : (low high : ℕ) (to : Option ℕ → ParsedScript) (setting : Option ℕ)
      → TakesNumber (to None) keyword low high (λ n. to (Some n)) → IsWithin low high setting
      → Says (to None) (setting_lines name setting) (to setting)
  says_setting low high to None takes within = says_nothing (to None)
  says_setting low high to (Some n) takes within = says_line (to None) (to (Some n)) _
      (number_line low high (λ m. to (Some m)) n takes within.0 within.1)

-- ---- settings

abbrev given : Option ℕ → Option ℕ → Option ℕ → Option ℕ → Option ℕ → ParsedScript
given clock limit capacity credit submitters = record {
  settings = record { clock = clock; limit = limit; capacity = capacity; credit = credit; submitters = submitters };
  items = [];
  packet = None;
  shut = false;
}

says_settings : (settings : Settings) → CanBeSet settings → Says nothing_parsed (settings_lines settings)
    (given settings.clock settings.limit settings.capacity settings.credit settings.submitters)
unfolding with_line keyword_of
says_settings settings within =
    says_both _ _ _ _ _ (says_setting (keyword_named word.Clock (codes "clock") refl (omega arith) refl refl) 0 clock_max
    (λ clock. given clock None None None None) settings.clock (refl, omega arith, λ text. refl) within.clock)
    (says_both _ _ _ _ _ (says_setting (keyword_named word.Limit (codes "limit") refl (omega arith) refl refl) 1 batch_max
    (λ limit. given settings.clock limit None None None) settings.limit (refl, omega arith, λ text. refl) within.limit)
    (says_both _ _ _ _ _ (says_setting (keyword_named word.Capacity (codes "capacity") refl (omega arith) refl refl) 1 capacity_max
    (λ capacity. given settings.clock settings.limit capacity None None) settings.capacity
    (refl, omega arith, λ text. refl) within.capacity)
    (says_both _ _ _ _ _ (says_setting (keyword_named word.Credit (codes "credit") refl (omega arith) refl refl) 1 capacity_max
    (λ credit. given settings.clock settings.limit settings.capacity credit None) settings.credit
    (refl, omega arith, λ text. refl) within.credit)
    (says_setting (keyword_named word.Submitters (codes "submitters") refl (omega arith) refl refl) 1 submitters_max
    (λ submitters. given settings.clock settings.limit settings.capacity settings.credit submitters) settings.submitters
    (refl, omega arith, λ text. refl) within.submitters))))

-- ---- packets

digit_byte_is_word : (d : ℕ) → d < 16 → is_word_byte (slice_index lower_digits d) ≡ true
digit_byte_is_word d h = AllPass-from_list_all is_word_byte lower_digits refl d 0 h

encoded_is_word : (byte : ℕ) → byte < 256 → is_word (encode_lower (byte ∷ [])) ≡ true
unfolding encode_with
encoded_is_word byte h =
    let high : byte / 16 < 16 = omega arith in
    let low : byte % 16 < 16 = omega arith in
    rw (digit_byte_is_word (byte / 16) high, digit_byte_is_word (byte % 16) low) refl

length-encoded : (byte : ℕ) → length (encode_lower (byte ∷ [])) ≡ 2
unfolding encode_with
length-encoded byte = refl

one_is_bytes : (byte : ℕ) → byte < 256 → IsBytes (byte ∷ [])
one_is_bytes byte h zero = h
one_is_bytes byte h (suc i) = omega arith

one_byte : (byte : ℕ) → byte < 256 → hex_bytes (encode_lower (byte ∷ [])) ≡ Ok (byte ∷ [])
unfolding hex_bytes
one_byte byte h = rw (decode_of-encode_lower (byte ∷ []) (one_is_bytes byte h)) refl

-- a packet to which lines add, after what was said
abbrev adding : ParsedScript → ℕ → packets.Packet → ParsedScript
adding parsed submitter packet = record parsed { items = items_of parsed; packet = Some (submitter, packet) }

says_byte : (parsed : ParsedScript) (submitter : ℕ) (packet : packets.Packet) (byte : ℕ) → byte < 256
    → SaysLine (adding parsed submitter packet) (byte_line byte)
    (adding parsed submitter (record packet { bytes = packet.bytes ++ byte ∷ [] }))
unfolding with_line keyword_of
says_byte parsed submitter packet byte h =
    keyword_line (keyword_named word.Hex (codes "hex") refl (omega arith) refl refl) (adding parsed submitter packet)
    (encode_lower (byte ∷ []) ∷ []) (rw (encoded_is_word byte h) refl) (omega (arith, length-encoded byte)) refl (rw (one_byte byte h) refl)

says_bytes : (parsed : ParsedScript) (submitter : ℕ) (packet : packets.Packet) (bytes : List ℕ)
    → All (λ byte. byte < 256) bytes →
    Says (adding parsed submitter packet) (map byte_line bytes)
    (adding parsed submitter (record packet { bytes = packet.bytes ++ bytes }))
says_bytes parsed submitter packet [] are_bytes =
    subst (λ bs. Says (adding parsed submitter packet) [] (adding parsed submitter (record packet { bytes = bs })))
    (sym (append-nil packet.bytes)) (says_nothing _)
says_bytes parsed submitter packet (byte ∷ bytes) are_bytes =
    let small = All-head (λ b. b < 256) byte bytes are_bytes in
    let more = record packet { bytes = packet.bytes ++ byte ∷ [] } in
    says_more _ (adding parsed submitter more) _ _ _ (says_byte parsed submitter packet byte small)
    (subst (λ bs. Says (adding parsed submitter more) (map byte_line bytes) (adding parsed submitter (record packet { bytes = bs })))
    (append_assoc packet.bytes (byte ∷ []) bytes)
    (says_bytes parsed submitter more bytes (All-tail (λ b. b < 256) byte bytes are_bytes)))

-- a packet's line begins the packet, and those of its bytes add them
says_packet : (parsed : ParsedScript) (submitter : ℕ) (packet : packets.Packet) → submitters_of parsed.settings ≤ submitters_max
    → CanBeSubmitted (submitters_of parsed.settings) submitter packet →
    Says parsed (packet_lines submitter packet) (adding parsed submitter packet)
unfolding with_line keyword_of
says_packet parsed submitter packet few allowed =
    let empty = record packet { bytes = [] } in
    let first : submitter < 2 ^ 128 = omega (arith, allowed.known) in
    let second : packet.operation < 2 ^ 128 = omega (arith, allowed.operation) in
    let short : length (line_of_words (codes "packet" ∷ decimal submitter ∷ decimal packet.operation ∷ [])) ≤ 65536 = omega (
      arith,
      length-append (decimal submitter) (32 ∷ decimal packet.operation),
      length-decimal submitter first,
      length-decimal packet.operation second,
    ) in
    says_more parsed (adding parsed submitter empty) (adding parsed submitter packet) _ (map byte_line packet.bytes)
    (keyword_line (keyword_named word.Packet (codes "packet") refl (omega arith) refl refl) parsed
    (decimal submitter ∷ decimal packet.operation ∷ [])
    (rw (decimal_is_word submitter first, decimal_is_word packet.operation second) refl) short refl
    (rw (
      number_within-decimal 0 (submitters_of parsed.settings - 1) submitter (omega arith) (omega (arith, allowed.known)) first,
      number_within-decimal 0 255 packet.operation (omega arith) (omega (arith, allowed.operation)) second,
      allowed.user,
    ) refl))
    (says_bytes parsed submitter empty packet.bytes allowed.bytes)

-- a pulse's line says its pulse
says_pulse : (parsed : ParsedScript) (moment : ℕ) → parsed.shut ≡ false → moment < 2 ^ 64
    → Says parsed (item_lines (Pulse moment)) (with_pulse parsed moment)
unfolding with_line keyword_of
says_pulse parsed moment unshut small =
    says_line parsed (with_pulse parsed moment) _
    (number_line (keyword_named word.Pulse (codes "pulse") refl (omega arith) refl refl) 0 (2 ^ 64 - 1) (with_pulse parsed) moment (rw unshut refl, omega arith, λ text. refl)
    (omega arith) (omega (arith, small)))

-- the line of the Close says it
says_close : (parsed : ParsedScript) → parsed.shut ≡ false → Says parsed (item_lines Shut) (with_close parsed)
unfolding with_line keyword_of
says_close parsed unshut =
    says_line parsed (with_close parsed) _
    (keyword_line (keyword_named word.Shut (codes "shut") refl (omega arith) refl refl) parsed [] refl (omega arith) (rw unshut refl) refl)

-- one item after those that were said
abbrev with_item : ParsedScript → ScriptItem → ParsedScript
with_item parsed (Packet submitter packet) = adding parsed submitter packet
with_item parsed (Pulse moment) = with_pulse parsed moment
with_item parsed Shut = with_close parsed

says_item : (parsed : ParsedScript) (item : ScriptItem) → submitters_of parsed.settings ≤ submitters_max
    → CanBeWritten (submitters_of parsed.settings) parsed.shut item → Says parsed (item_lines item) (with_item parsed item)
says_item parsed (Packet submitter packet) few h = says_packet parsed submitter packet few h
says_item parsed (Pulse moment) few h = says_pulse parsed moment h.0 h.1
says_item parsed Shut few h = says_close parsed h

settings_stay : (parsed : ParsedScript) (item : ScriptItem) → (with_item parsed item).settings ≡ parsed.settings
settings_stay parsed (Packet submitter packet) = refl
settings_stay parsed (Pulse moment) = refl
settings_stay parsed Shut = refl

shut_after : (parsed : ParsedScript) (item : ScriptItem) → (with_item parsed item).shut ≡ shut_by parsed.shut item
shut_after parsed (Packet submitter packet) = refl
shut_after parsed (Pulse moment) = refl
shut_after parsed Shut = refl

item_is_last : (parsed : ParsedScript) (item : ScriptItem) → items_of (with_item parsed item) ≡ items_of parsed ++ item ∷ []
item_is_last parsed (Packet submitter packet) = refl
item_is_last parsed (Pulse moment) = append-nil (items_of parsed ++ Pulse moment ∷ [])
item_is_last parsed Shut = append-nil (items_of parsed ++ Shut ∷ [])

-- the items after those that were said
record SaysItems (parsed : ParsedScript) (items : List ScriptItem) : Type 0 where
  next : ParsedScript
  says : Says parsed (flat_map item_lines items) next
  settings : next.settings ≡ parsed.settings
  all : items_of next ≡ items_of parsed ++ items

says_items : (parsed : ParsedScript) (items : List ScriptItem) → submitters_of parsed.settings ≤ submitters_max
    → CanAllBeWritten (submitters_of parsed.settings) parsed.shut items → SaysItems parsed items
says_items parsed [] few all =
    record { next = parsed; says = says_nothing parsed; settings = refl; all = sym (append-nil (items_of parsed)) }
says_items parsed (item ∷ items) few all =
    let between = with_item parsed item in
    let same = settings_stay parsed item in
    let can = subst (λ b. CanAllBeWritten (submitters_of between.settings) b items) (sym (shut_after parsed item))
    (subst (λ (s : Settings). CanAllBeWritten (submitters_of s) (shut_by parsed.shut item) items)
    (sym same) all.1) in
    let later = says_items between items (subst (λ (s : Settings). submitters_of s ≤ submitters_max) (sym same) few)
    can in
    record {
      next = later.next;
      says = says_both parsed between later.next (item_lines item) (flat_map item_lines items)
          (says_item parsed item few all.0) later.says;
      settings = later.settings ∙ same;
      all = later.all ∙ ap (λ xs. xs ++ items) (item_is_last parsed item) ∙ append_assoc (items_of parsed) (item ∷ []) items;
    }

few_submitters : (submitters : Option ℕ) → IsWithin 1 submitters_max submitters → unwrap_or submitters 2 ≤ submitters_max
few_submitters None h = omega arith
few_submitters (Some n) h = h.1

pub read_as_spelled : SpelledScriptsAreRead
read_as_spelled settings items can all =
    let start = given settings.clock settings.limit settings.capacity settings.credit settings.submitters in
    let later = says_items start items (few_submitters settings.submitters can.submitters) all in
    let whole = says_both nothing_parsed start later.next (settings_lines settings) (flat_map item_lines items)
    (says_settings settings can) later.says in (
      later.next,
      ap (after_lines 1 nothing_parsed) (lines_of-text_of_lines
          (settings_lines settings ++ flat_map item_lines items) whole.text)
          ∙ whole.read 1,
      later.settings,
      later.all,
    )
