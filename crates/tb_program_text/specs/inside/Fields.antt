-- The rows of a table of fields, and the field that a word names in them.
use Rattle.std.specs.Prelude.{◌≡◌, ◌<◌, ◌≤◌, ◌+◌, ◌⊎◌, ◌==◌, not, true, ℕ, List, Some, Result, All, IfOk}
use Rattle.std.specs.Borrow.{Bor}
use Rattle.std.specs.List.{list_all}
use Rattle.tb_program_text.specs.declared.fault.Fault.{Fault}
use Rattle.tb_program_text.specs.declared.event.Field.{Field}
use Rattle.tb_program_text.specs.declared.event.NamedField.{NamedField}
use Rattle.tb_program_text.specs.declared.event.Layout.{Layout}
use Rattle.tb_program_text.specs.clauses.Event.{fields_of}
use Rattle.tb_program_text.specs.clauses.Steps.{Tells, look_up}
use Rattle.tb_program_text.specs.clauses.Text.{first_word, after_first_word, first_line, after_first_line}

-- a field is within the event
pub record Lies (field : Field) : Type 0 where
  pub index : field.index < 13
  pub inside : field.offset + field.size ≤ 128
  pub size : (field.size ≡ 2) ⊎ ((field.size ≡ 4) ⊎ ((field.size ≡ 8) ⊎ (field.size ≡ 16)))

-- no byte of a name is `=`, a space or the end of a line
abbrev pub IsBare : List ℕ → Type 0
IsBare name =
    (list_all (λ byte. not (byte == 61)) name ≡ true) × (list_all (λ byte. not (byte == 32)) name ≡ true)
    × (list_all (λ byte. not (byte == 10)) name ≡ true)

-- some rows of the table of a layout's fields
abbrev pub AreRowsOf : Layout → List (Bor (List ℕ) × Field) → Type 0
AreRowsOf layout rows =
    All (λ row. IsBare row.0.now) rows × All (λ row. look_up row.0.now (fields_of layout) ≡ Some row.1) rows

-- the field that a text's first word names is the expected one, and so is the word after the `=`. The text is the same from the end of
-- the word on. At most this number of rows are after the field's own
pub record NamesField (text : List ℕ) (most : ℕ) (expected : Result (Field × List ℕ) Fault)
    (result : Result NamedField Fault) : Type 0 where
  pub both : Tells (λ named. (named.field, first_word (first_line named.from_number.now))) result expected
  pub rest : IfOk result (λ named. after_first_word (first_line named.from_number.now) ≡ after_first_word (first_line text))
  pub lines : IfOk result (λ named. after_first_line named.from_number.now ≡ after_first_line text)
  pub rows_after : IfOk result (λ named. named.rows_after ≤ most)
