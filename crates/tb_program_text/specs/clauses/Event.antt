-- The bytes of an event, from its line.
use Rattle.std.specs.Prelude.{ℕ, ◌+◌, ◌-◌, ◌^◌, ◌==◌, false, true, List, [], ◌∷◌, ◌++◌, length, take, drop, replicate, set, Option, Some, None, Result, Ok, Err, codes, slice_index_or, if◌then◌else◌, nat_lt}
use Rattle.std.specs.List.{before_first, after_first, position_or_len}
use Rattle.std.specs.Int.{w128, to_le_bytes}
use Rattle.hex.specs.Hex.{decode_of}
use Rattle.tb_program_text.specs.declared.fault.Fault.{Fault}
use Rattle.tb_program_text.specs.declared.fault.Fault.TheVariants.{BadField, BadHex}
use Rattle.tb_program_text.specs.declared.event.Field.{Field}
use Rattle.tb_program_text.specs.declared.event.Draft.{Draft}
use Rattle.tb_program_text.specs.declared.event.Layout.{Layout}
use Rattle.tb_program_text.specs.declared.event.Layout.TheVariants.{Account, Transfer}
use Rattle.tb_program_text.specs.clauses.Number.{number_of, within}
use Rattle.tb_program_text.specs.clauses.Steps.{◌>>=◌, look_up}

-- the field at an index among the fields, an offset, and with a size in bytes
abbrev pub field : ℕ → ℕ → ℕ → Field
field index offset size = record { index = index; offset = offset; size = size }

-- in the order in which lines mostly give them
abbrev pub account_fields : List (List ℕ × Field)
account_fields =
    (codes "id", field 0 0 16) ∷
    (codes "ledger", field 9 112 4) ∷
    (codes "code", field 10 116 2) ∷
    (codes "flags", field 11 118 2) ∷
    (codes "user_data_128", field 5 80 16) ∷
    (codes "user_data_64", field 6 96 8) ∷
    (codes "user_data_32", field 7 104 4) ∷
    (codes "reserved", field 8 108 4) ∷
    (codes "debits_pending", field 1 16 16) ∷
    (codes "debits_posted", field 2 32 16) ∷
    (codes "credits_pending", field 3 48 16) ∷
    (codes "credits_posted", field 4 64 16) ∷
    (codes "timestamp", field 12 120 8) ∷
    []

abbrev pub transfer_fields : List (List ℕ × Field)
transfer_fields =
    (codes "id", field 0 0 16) ∷
    (codes "debit_account_id", field 1 16 16) ∷
    (codes "credit_account_id", field 2 32 16) ∷
    (codes "amount", field 3 48 16) ∷
    (codes "pending_id", field 4 64 16) ∷
    (codes "timeout", field 8 108 4) ∷
    (codes "ledger", field 9 112 4) ∷
    (codes "code", field 10 116 2) ∷
    (codes "flags", field 11 118 2) ∷
    (codes "user_data_128", field 5 80 16) ∷
    (codes "user_data_64", field 6 96 8) ∷
    (codes "user_data_32", field 7 104 4) ∷
    (codes "timestamp", field 12 120 8) ∷
    []

abbrev pub fields_of : Layout → List (List ℕ × Field)
fields_of Account = account_fields
fields_of Transfer = transfer_fields

-- an event, none of whose fields was given
abbrev pub blank : Draft
blank = record { bytes = replicate 128 0; given = replicate 13 false }

-- a field that was not given before
abbrev pub new_field : Draft → Field → Result Field Fault
new_field draft field = if slice_index_or draft.given field.index false then Err BadField else Ok field

-- the number in the field's place, its lowest byte first
abbrev pub with_number : Draft → Field → ℕ → Draft
with_number draft field number = record {
  bytes = take field.offset draft.bytes ++ take field.size (to_le_bytes w128 number)
      ++ drop (field.offset + field.size) draft.bytes;
  given = set draft.given field.index true;
}

-- the greatest number of this many bytes
abbrev pub greatest : ℕ → ℕ
greatest size = 256 ^ size - 1

-- the name before the first `=`, and the number after it
abbrev pub sides_of : List ℕ → Result (List ℕ × List ℕ) Fault
sides_of word =
    if nat_lt (position_or_len (λ byte. byte == 61) word) (length word)
    then Ok (before_first (λ byte. byte == 61) word, after_first (λ byte. byte == 61) word)
    else Err BadField

abbrev pub found : {Value : Type 0} → Option Value → Result Value Fault
found None = Err BadField
found (Some value) = Ok value

-- the field of a table that a word names, and what follows the `=`
abbrev pub named : List ℕ → List (List ℕ × Field) → Result (Field × List ℕ) Fault
named word rows = do
  sides ← sides_of word
  field ← found (look_up sides.0 rows)
  Ok (field, sides.1)

unfoldable pub field_and_number : Layout → List ℕ → Result (Field × List ℕ) Fault
field_and_number layout word = named word (fields_of layout)

-- the number that a word gave, if it gave one and that fits, in the field's place
abbrev pub put : Draft → Field → Option ℕ → Result Draft Fault
put draft field number = do
  fitting ← within 0 (greatest field.size) number
  Ok (with_number draft field fitting)

-- one word NAME=N
unfoldable pub after_word : Layout → Draft → List ℕ → Result Draft Fault
after_word layout draft word = do
  named ← field_and_number layout word
  field ← new_field draft named.0
  put draft field (number_of named.1)

unfoldable pub after_words : Layout → Draft → List (List ℕ) → Result Draft Fault
after_words layout draft [] = Ok draft
after_words layout draft (word ∷ words) = after_word layout draft word >>= λ next. after_words layout next words

-- the 128 bytes of the event that a line's words give
unfoldable pub event_of : Layout → List (List ℕ) → Result (List ℕ) Fault
event_of layout words = do
  draft ← after_words layout blank words
  Ok draft.bytes

abbrev pub hex_or_fault : {E : Type 0} → Result (List ℕ) E → Result (List ℕ) Fault
hex_or_fault (Ok bytes) = Ok bytes
hex_or_fault (Err e) = Err BadHex

-- the bytes that hexadecimal digits give
unfoldable pub hex_bytes : List ℕ → Result (List ℕ) Fault
hex_bytes word = hex_or_fault (decode_of word)
