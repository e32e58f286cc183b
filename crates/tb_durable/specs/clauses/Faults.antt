-- Which rows keep a ledger from being opened.
use Rattle.std.specs.Prelude.{◌≡◌, ◌≢◌, ℕ, pos, Option, List, ◌∷◌, ◌++◌}
use Rattle.sqlite_value.specs.declared.value.Value.TheVariants.{Int}
use Rattle.sqlite_value.specs.Order.{Row, column}
use Rattle.sqlite_trees.specs.Tree.{rowid}
use Rattle.sqlite_trees.specs.View.{Tells}
use Rattle.sqlite_trees.specs.declared.error.StoreError.{StoreError}
use Rattle.tb_core.specs.claim.BareLedger.{BareLedgerState}
use Rattle.tb_durable.specs.declared.fault.OpenFault.{OpenFault}
use Rattle.tb_durable.specs.declared.fault.OpenFault.TheVariants as fault
use Rattle.tb_durable.specs.claim.Rows.{format_version}
use Rattle.tb_durable.specs.claim.Durable.{IsJournal}

-- ---- one row

-- a batch or a pulse can't be read from the row at this place
abbrev pub IsEntryFault : ℕ → OpenFault → Type 0
IsEntryFault at fault.NoMemory = Unit {0}
IsEntryFault at (fault.BadEntry place) = place ≡ at
IsEntryFault at other = ⊥

-- the next row isn't at this place, or it is and can't be read
abbrev pub IsRowFault : ℕ → Row → OpenFault → Type 0
IsRowFault at row fault.NoMemory = Unit {0}
IsRowFault at row (fault.OutOfPlace place) = (place ≡ at) × (rowid row ≢ Int (pos at))
IsRowFault at row (fault.BadEntry place) = (place ≡ at) × (rowid row ≡ Int (pos at))
IsRowFault at row other = ⊥

-- the first row has another version, or no settings
abbrev pub IsFirstFault : Row → OpenFault → Type 0
IsFirstFault row (fault.OtherVersion version) = (column row 2 ≡ Int (pos version)) × (version ≢ format_version)
IsFirstFault row fault.BadSettings = Unit {0}
IsFirstFault row other = ⊥

-- an error of the store is the last that it returned, if it says which
abbrev pub TellsStore : Option StoreError → OpenFault → Type 0
TellsStore blamed (fault.Store error) = Tells blamed error
TellsStore blamed other = Unit {0}

-- ---- all rows

-- this row is after those of a journal, whose next place this is
pub record IsNextAt (rows : List Row) (place : ℕ) (row : Row) : Type 0 where
  pub read : List Row
  pub left : List Row
  pub bare : BareLedgerState
  pub all : rows ≡ read ++ row ∷ left
  pub journal : IsJournal read bare
  pub next : bare.places ≡ place

-- What a fault says of the rows. `OutOfPlace`: after the rows of a journal comes a row that isn't at its next place. `BadEntry`:
-- the row at that place can't be read. `OtherVersion`: the first row has it. Of the others it says nothing.
abbrev pub IsCause : List Row → OpenFault → Type 0
IsCause rows (fault.OutOfPlace place) = (row : Row) × IsNextAt rows place row × (rowid row ≢ Int (pos place))
IsCause rows (fault.BadEntry place) = (row : Row) × IsNextAt rows place row × (rowid row ≡ Int (pos place))
IsCause rows (fault.OtherVersion version) =
    (first : Row) × (left : List Row) × (rows ≡ first ∷ left) × (column first 2 ≡ Int (pos version)) × (version ≢ format_version)
IsCause rows other = Unit {0}
