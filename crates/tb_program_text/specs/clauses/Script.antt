-- What a script says.
use Rattle.std.specs.Prelude.{◌≤◌, ℕ, ◌+◌, ◌-◌, ◌^◌, ◌==◌, Bool, true, false, not, ◌&&◌, ◌||◌, List, [], ◌∷◌, ◌++◌, length, Option, Some, None, Result, Ok, Err, is_some, is_none, unwrap_or, if◌then◌else◌, nat_lt, nat_le, slice_index}
use Rattle.std.specs.List.{list_all}
use Rattle.std.specs.Int.{w128, to_le_bytes}
use Rattle.tb_layout.specs.claim.Bounds.{batch_max, capacity_max, submitters_max}
use Rattle.tb_layout.specs.claim.Limits.{clock_max}
use Rattle.tb_work.specs.declared.packet.Packet as packets
use Rattle.tb_program_text.specs.declared.fault.Fault.{Fault}
use Rattle.tb_program_text.specs.declared.fault.Fault.TheVariants.{LineTooLong, BadByte, UnknownWord, OutOfPlace}
use Rattle.tb_program_text.specs.declared.keyword.Keyword.{Keyword}
use Rattle.tb_program_text.specs.declared.keyword.Keyword.TheVariants as word
use Rattle.tb_program_text.specs.declared.event.Layout.{Layout}
use Rattle.tb_program_text.specs.declared.event.Layout.TheVariants.{Account, Transfer}
use Rattle.tb_program_text.specs.declared.item.Settings.{Settings}
use Rattle.tb_program_text.specs.declared.item.OpenPacket.{OpenPacket}
use Rattle.tb_program_text.specs.declared.item.ScriptItem.{ScriptItem}
use Rattle.tb_program_text.specs.declared.item.ScriptItem.TheVariants.{Packet, Pulse, Shut}
use Rattle.tb_program_text.specs.clauses.Text.{lines_of, words_of}
use Rattle.tb_program_text.specs.clauses.Number.{number_within}
use Rattle.tb_program_text.specs.clauses.Steps.{◌>>=◌}
use Rattle.tb_program_text.specs.clauses.Keyword.{keyword_of, no_word, one_word, two_words}
use Rattle.tb_program_text.specs.clauses.Event.{event_of, hex_bytes}

-- what the lines so far say: the settings given, the items that are whole, the packet to which lines of events still
-- add, with its submitter, and whether there was a Close
pub record ParsedScript : Type 0 where
  pub settings : Settings
  pub items : List ScriptItem
  pub packet : Option (ℕ × packets.Packet)
  pub shut : Bool

abbrev pub nothing_parsed : ParsedScript
nothing_parsed = record {
  settings = record { clock = None; limit = None; capacity = None; credit = None; submitters = None };
  items = [];
  packet = None;
  shut = false;
}

-- a packet to which lines still add; a script's packets have the user word 0
abbrev pub so_far : Option OpenPacket → Option (ℕ × packets.Packet)
so_far None = None
so_far (Some packet) =
    Some (packet.submitter, record { operation = packet.operation; bytes = packet.bytes.items; user = 0 })

abbrev pub packet_items : Option (ℕ × packets.Packet) → List ScriptItem
packet_items None = []
packet_items (Some (submitter, packet)) = Packet submitter packet ∷ []

-- all items
abbrev pub items_of : ParsedScript → List ScriptItem
items_of parsed = parsed.items ++ packet_items parsed.packet

abbrev pub has_begun : ParsedScript → Bool
has_begun parsed = not (length parsed.items == 0) || is_some parsed.packet

-- a setting comes before the items, and once
abbrev pub may_set : {A : Type 0} → ParsedScript → Option A → Bool
may_set parsed setting = not (has_begun parsed) && is_none setting

-- where a line may be
abbrev pub may_stand : ParsedScript → Keyword → Bool
may_stand parsed word.Clock = may_set parsed parsed.settings.clock
may_stand parsed word.Limit = may_set parsed parsed.settings.limit
may_stand parsed word.Capacity = may_set parsed parsed.settings.capacity
may_stand parsed word.Credit = may_set parsed parsed.settings.credit
may_stand parsed word.Submitters = may_set parsed parsed.settings.submitters
may_stand parsed word.Packet = true
may_stand parsed word.Account = is_some parsed.packet
may_stand parsed word.Transfer = is_some parsed.packet
may_stand parsed word.Id = is_some parsed.packet
may_stand parsed word.Hex = is_some parsed.packet
may_stand parsed word.Pulse = not parsed.shut
may_stand parsed word.Shut = not parsed.shut

-- the settings that hold if a script gives none
abbrev pub clock_of : Settings → ℕ
clock_of settings = unwrap_or settings.clock 0

abbrev pub limit_of : Settings → ℕ
limit_of settings = unwrap_or settings.limit batch_max

abbrev pub capacity_of : Settings → ℕ
capacity_of settings = unwrap_or settings.capacity 64

abbrev pub credit_of : Settings → ℕ
credit_of settings = unwrap_or settings.credit 16

abbrev pub submitters_of : Settings → ℕ
submitters_of settings = unwrap_or settings.submitters 2

abbrev pub set_to : ParsedScript → Settings → ParsedScript
set_to parsed settings = record parsed { settings = settings }

abbrev pub with_packet : ParsedScript → ℕ → ℕ → ParsedScript
with_packet parsed submitter operation = record parsed {
  items = items_of parsed;
  packet = Some (submitter, record { operation = operation; bytes = []; user = 0 });
}

abbrev pub with_pulse : ParsedScript → ℕ → ParsedScript
with_pulse parsed moment = record parsed { items = items_of parsed ++ Pulse moment ∷ []; packet = None }

abbrev pub with_close : ParsedScript → ParsedScript
with_close parsed = record parsed { items = items_of parsed ++ Shut ∷ []; packet = None; shut = true }

abbrev pub more_bytes : Option (ℕ × packets.Packet) → List ℕ → Option (ℕ × packets.Packet)
more_bytes None bytes = None
more_bytes (Some (submitter, packet)) bytes = Some (submitter, record packet { bytes = packet.bytes ++ bytes })

abbrev pub with_bytes : ParsedScript → List ℕ → ParsedScript
with_bytes parsed bytes = record parsed { packet = more_bytes parsed.packet bytes }

abbrev pub with_event : ParsedScript → Layout → List (List ℕ) → Result ParsedScript Fault
with_event parsed layout words = do
  bytes ← event_of layout words
  Ok (with_bytes parsed bytes)

-- the numbers of a packet's line: its submitter, at most this one, and its operation
abbrev pub packet_numbers : ℕ → List (List ℕ) → Result (ℕ × ℕ) Fault
packet_numbers most words = do
  texts ← two_words words
  submitter ← number_within 0 most texts.0
  operation ← number_within 0 255 texts.1
  Ok (submitter, operation)

abbrev pub one_number : ℕ → ℕ → List (List ℕ) → Result ℕ Fault
one_number low high words = do
  text ← one_word words
  number_within low high text

-- a line in its place, with the words after its first
unfoldable pub with_line : ParsedScript → Keyword → List (List ℕ) → Result ParsedScript Fault
with_line parsed word.Clock words = do
  n ← one_number 0 clock_max words
  Ok (set_to parsed (record parsed.settings { clock = Some n }))
with_line parsed word.Limit words = do
  n ← one_number 1 batch_max words
  Ok (set_to parsed (record parsed.settings { limit = Some n }))
with_line parsed word.Capacity words = do
  n ← one_number 1 capacity_max words
  Ok (set_to parsed (record parsed.settings { capacity = Some n }))
with_line parsed word.Credit words = do
  n ← one_number 1 capacity_max words
  Ok (set_to parsed (record parsed.settings { credit = Some n }))
with_line parsed word.Submitters words = do
  n ← one_number 1 submitters_max words
  Ok (set_to parsed (record parsed.settings { submitters = Some n }))
with_line parsed word.Packet words = do
  numbers ← packet_numbers (submitters_of parsed.settings - 1) words
  Ok (with_packet parsed numbers.0 numbers.1)
with_line parsed word.Account words = with_event parsed Account words
with_line parsed word.Transfer words = with_event parsed Transfer words
with_line parsed word.Id words = do
  id ← one_number 0 (2 ^ 128 - 1) words
  Ok (with_bytes parsed (to_le_bytes w128 id))
with_line parsed word.Hex words = do
  text ← one_word words
  bytes ← hex_bytes text
  Ok (with_bytes parsed bytes)
with_line parsed word.Pulse words = do
  moment ← one_number 0 (2 ^ 64 - 1) words
  Ok (with_pulse parsed moment)
with_line parsed word.Shut words = do
  none ← no_word words
  Ok (with_close parsed)

abbrev pub with_keyword : ParsedScript → Option Keyword → List (List ℕ) → Result ParsedScript Fault
with_keyword parsed None words = Err UnknownWord
with_keyword parsed (Some keyword) words =
    if may_stand parsed keyword then with_line parsed keyword words else Err OutOfPlace

-- a line without words, or whose first word begins with `#`, is skipped
abbrev pub with_words : ParsedScript → List (List ℕ) → Result ParsedScript Fault
with_words parsed [] = Ok parsed
with_words parsed (word ∷ words) = if slice_index word 0 == 35 then Ok parsed else with_keyword parsed (keyword_of word) words

abbrev pub is_text_byte : ℕ → Bool
is_text_byte byte = nat_le 32 byte && nat_le byte 126

abbrev pub is_text : List ℕ → Bool
is_text line = list_all is_text_byte line

-- the most bytes of a line
abbrev pub line_max : ℕ
line_max = 65536

-- a line after what the lines before it say: what they say together, or the first fault that applies
unfoldable pub after_line : ParsedScript → List ℕ → Result ParsedScript Fault
after_line parsed line =
    if nat_lt line_max (length line) then Err LineTooLong
    else if not (is_text line) then Err BadByte
    else with_words parsed (words_of line)

-- a fault, with the number of its line
abbrev pub at_line : {A : Type 0} → ℕ → Result A Fault → Result A (ℕ × Fault)
at_line number (Ok x) = Ok x
at_line number (Err fault) = Err (number, fault)

-- what lines say, the first of them having this number, or the number and the fault of the first faulty one
unfoldable pub after_lines : ℕ → ParsedScript → List (List ℕ) → Result ParsedScript (ℕ × Fault)
after_lines number parsed [] = Ok parsed
after_lines number parsed (line ∷ lines) =
    at_line number (after_line parsed line) >>= λ next. after_lines (number + 1) next lines

-- what a script says
abbrev pub script_of : List ℕ → Result ParsedScript (ℕ × Fault)
script_of bytes = after_lines 1 nothing_parsed (lines_of bytes)

-- what is known of the settings of each script
pub record InBounds (settings : Settings) : Type 0 where
  pub clock : clock_of settings ≤ clock_max
  pub limit_low : 1 ≤ limit_of settings
  pub limit_high : limit_of settings ≤ batch_max
  pub capacity_low : 1 ≤ capacity_of settings
  pub capacity_high : capacity_of settings ≤ capacity_max
  pub credit_low : 1 ≤ credit_of settings
  pub credit_high : credit_of settings ≤ capacity_max
  pub submitters_low : 1 ≤ submitters_of settings
  pub submitters_high : submitters_of settings ≤ submitters_max
