-- A ledger over a store.
use Rattle.std.specs.Prelude.{◌≡◌, ◌⊎◌, ℕ, pos, negsuc, Bool, true, false, Some, List, [], ◌∷◌, ◌++◌, map, IsTrue}
use Rattle.std.specs.declared.cmp.Ordering.TheVariants.{Less}
use Rattle.std.specs.List.{AllByRecursion}
use Rattle.tb_layout.specs.claim.Events.{Input, Pulse}
use Rattle.tb_work.specs.claim.Packet.{input_of}
use Rattle.tb_core.specs.declared.parcel.Parcel.{Parcel}
use Rattle.tb_core.specs.declared.parcel.Parcel.TheVariants as parcel
use Rattle.tb_core.specs.claim.AnyLedger.{IsWithJournal}
use Rattle.tb_core.specs.claim.BareLedger.{BareLedgerState, HasCommitted}
use Rattle.tb_core.specs.claim.Journal.{LedgerState}
use Rattle.sqlite_value.specs.declared.value.Value.TheVariants.{Int}
use Rattle.sqlite_value.specs.Order.{Row, value_cmp}
use Rattle.sqlite_trees.specs.declared.store.Shape.TheVariants.{Table}
use Rattle.sqlite_trees.specs.Tree.{Trees, rowid, put_row}
use Rattle.sqlite_trees.specs.View.{View, IsClean}
use Rattle.tb_durable.specs.declared.settings.Settings.{Settings}
use Rattle.tb_durable.specs.claim.Rows.{jobs_row, pulse_row, settings_row, group_in, clock_in}

-- ---- the store

-- between two calls: the store is open, and all that is written is committed
pub record IsSettled (view : View) : Type 0 where
  pub is_open : IsTrue view.is_open
  pub sound : view.is_broken ≡ false
  pub same : view.trees ≡ view.committed
  pub shape : view.shape 0 ≡ Table

-- a row was put in its place and committed, with nothing else
pub record Adds (old new : View) (row : Row) : Type 0 where
  pub rows : new.committed 0 ≡ put_row row (old.trees 0)
  pub settled : IsSettled new

-- the trees that a crash leaves if the row was committed
pub record IsAdded (old : View) (row : Row) (db : Trees) : Type 0 where
  pub clean : IsClean old
  pub sound : old.is_broken ≡ false
  pub rows : db 0 ≡ put_row row (old.trees 0)

-- ---- the journal

-- a row's place is below this one
abbrev pub IsBelow : ℕ → Row → Type 0
IsBelow place row = value_cmp (rowid row) (Int (pos place)) ≡ Less

-- The rows are a ledger's journal: after the settings, one row for each group that it committed, in order. So its state is
-- the replay of the rows. All rows are before its next place.
pub record IsJournal (rows : List Row) (bare : BareLedgerState) : Type 0 where
  pub first : Row
  pub entries : List Row
  pub is : rows ≡ first ∷ entries
  pub opened : bare.opening ≡ clock_in first
  pub committed : HasCommitted bare (map group_in entries)
  pub below : AllByRecursion (IsBelow bare.places) rows

-- unless the ledger stopped, the store has its journal, if the disk has returned what was written
abbrev pub IsStored : View → BareLedgerState → Type 0
IsStored view bare = IsClean view → bare.stopped ≡ false → IsSettled view × IsJournal (view.committed 0) bare

-- one group more is committed, whatever was committed before
abbrev pub AddsGroup : BareLedgerState → BareLedgerState → List Input → Type 0
AddsGroup old new group =
    (groups : List (List Input)) → HasCommitted old groups
    → HasCommitted new (groups ++ group ∷ []) × (new.opening ≡ old.opening)

-- the rows that a parcel adds at a place
abbrev pub rows_of : ℕ → Parcel → List Row
rows_of place (parcel.Batch jobs) = jobs_row place jobs ∷ []
rows_of place (parcel.Pulse moment) = pulse_row place moment ∷ []
rows_of place other = []

-- the groups that a parcel adds to a journal
abbrev pub groups_of_parcel : Parcel → List (List Input)
groups_of_parcel (parcel.Batch jobs) = map input_of jobs ∷ []
groups_of_parcel (parcel.Pulse moment) = (Pulse moment ∷ []) ∷ []
groups_of_parcel other = []

-- a journal's groups: those of its entries
abbrev pub groups_of : List Row → List (List Input)
groups_of [] = []
groups_of (first ∷ entries) = map group_in entries

-- it committed some groups
abbrev pub HasJournal : BareLedgerState → Type 0
HasJournal bare = (groups : List (List Input)) × HasCommitted bare groups

-- Which ledgers a stored one may be: those with a journal that it committed. Unless it stopped, that journal is in the rows, if
-- the disk has returned what was written.
pub record IsKept (view : View) (bare : BareLedgerState) (ledger : LedgerState) : Type 0 where
  pub journal : IsWithJournal bare ledger
  pub stored : IsStored view bare
  pub rows : IsClean view → bare.stopped ≡ false → groups_of (view.committed 0) ≡ ledger.groups

-- ---- opening

-- a first row: it has the rowid -1, and says where the clock starts
pub record IsFirst (row : Row) (clock : ℕ) : Type 0 where
  pub place : rowid row ≡ Int (negsuc 0)
  pub starts : clock_in row ≡ clock

-- the rows that opening finds: those that are there, or if there are none the settings, which it writes
abbrev pub opened_rows : Settings → List Row → List Row
opened_rows settings [] = settings_row settings ∷ []
opened_rows settings (row ∷ rows) = row ∷ rows

-- a cursor has read these rows of the table, and has the others left
pub record IsReading (view : View) (read : List Row) : Type 0 where
  pub left : List Row
  pub all : view.committed 0 ≡ read ++ left
  pub cursor : view.cursors 0 ≡ Some left
  pub settled : IsSettled view

-- a ledger has the journal of the rows that a cursor has read
abbrev pub IsReplaying : View → BareLedgerState → Type 0
IsReplaying view bare = (read : List Row) × IsReading view read × IsJournal read bare

-- ---- crashes

-- a crash leaves what it could leave before, or the rows with these after them
abbrev pub LeavesWith : (Trees → Type 0) → (Trees → Type 0) → List Row → List Row → Type 0
LeavesWith old new rows added = (db : Trees) → new db → old db ⊎ (db 0 ≡ rows ++ added)

-- rows have a journal: after the settings, whose clock it opened with, a row for each of its groups
pub record HasGroups (rows : List Row) (opening : ℕ) (groups : List (List Input)) : Type 0 where
  pub first : Row
  pub entries : List Row
  pub is : rows ≡ first ∷ entries
  pub opened : opening ≡ clock_in first
  pub has : map group_in entries ≡ groups

-- Rows have a ledger's journal. Only if the ledger is in doubt, they may have one group more, the one at which it stopped.
abbrev pub MayHave : Bool → LedgerState → List Row → Type 0
MayHave in_doubt ledger rows =
    HasGroups rows ledger.opening ledger.groups
    ⊎ ((in_doubt ≡ true) × (last : List Input) × HasGroups rows ledger.opening (ledger.groups ++ last ∷ []))

-- whatever a crash leaves has a ledger's journal, or also the group in doubt
abbrev pub LeavesJournal : (Trees → Type 0) → Bool → LedgerState → Type 0
LeavesJournal recovers in_doubt ledger = (db : Trees) → recovers db → MayHave in_doubt ledger (db 0)

-- a crash leaves nothing that it couldn't leave before
abbrev pub LeavesNothingNew : (Trees → Type 0) → (Trees → Type 0) → Type 0
LeavesNothingNew old new = (db : Trees) → new db → old db
