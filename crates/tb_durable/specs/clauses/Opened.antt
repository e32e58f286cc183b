-- Which store is opened at a path.
use Rattle.std.specs.Prelude.{◌≡◌, ◌⊎◌, ℕ, Bool, true, false, ◌||◌, [], ◌∷◌, List, codes, map, take, ⊤}
use Rattle.sqlite_value.specs.Order.{Row, column}
use Rattle.sqlite_value.specs.declared.value.Value.TheVariants.{Text}
use Rattle.sqlite_trees.specs.Tree.{Trees}
use Rattle.sqlite_trees.specs.View.{View, IsClean}
use Rattle.sqlite_trees.specs.Objects.{catalog_tree}
use Rattle.sqlite.specs.Files.{HoldsDatabase, AreFoundIn}
use Rattle.tb_durable.specs.declared.fault.OpenFault.{OpenFault}
use Rattle.tb_durable.specs.declared.fault.OpenFault.TheVariants as fault

-- the text of the ledger's table
abbrev pub table_text : List ℕ
table_text =
    codes "CREATE TABLE entry (place INTEGER PRIMARY KEY, operation INTEGER NOT NULL, moment INTEGER NOT NULL, stubs BLOB NOT NULL, body BLOB NOT NULL) STRICT"

-- the ledger's table as a store lists it: its type, its name twice, and its text
abbrev pub table_description : Row
table_description = Text (codes "table") ∷ Text (codes "entry") ∷ Text (codes "entry") ∷ Text table_text ∷ []

-- There is one object, and its text is that of the ledger's table.
pub record IsLedger (objects : List Row) : Type 0 where
  pub row : Row
  pub only : objects ≡ row ∷ []
  pub text : column row 4 ≡ Text table_text

-- of trees the tables, indexes and views, as they are listed
abbrev pub objects_in : Trees → List Row
objects_in trees = map (take 5) (trees catalog_tree)

-- The trees are those that there were, with the ledger's table only. Or there was no table, and the first tree has no rows. So the only
-- table is the ledger's.
pub record IsPrepared (before now : View) : Type 0 where
  pub clean : IsClean before
  pub kept : ((now.committed ≡ before.committed) × IsLedger (objects_in before.committed)) ⊎ ((before.committed catalog_tree ≡ []) × (now.committed 0 ≡ []))
  pub table : IsLedger (objects_in now.committed)

-- the ledger's table was made, without rows, and committed
pub record MakesTable (old new : View) : Type 0 where
  pub listed : IsLedger (objects_in new.committed)
  pub empty : new.committed 0 ≡ []
  pub is_open : new.is_open ≡ old.is_open

-- The store has the trees that the file and its log held, with the ledger's table only. Or these had no table, and the store's first
-- tree has no rows. So the store's only table is the ledger's.
pub record IsOpenedOn (log db : List ℕ) (view : View) : Type 0 where
  pub found : Trees
  pub holds : (held : Trees) → HoldsDatabase (record { log = log; db = db }) held → found ≡ held
  pub reads : AreFoundIn (record { log = log; db = db }) found
  pub kept : ((view.committed ≡ found) × IsLedger (objects_in found)) ⊎ ((found catalog_tree ≡ []) × (view.committed 0 ≡ []))
  pub table : IsLedger (objects_in view.committed)

-- Why a database isn't prepared: it has something else than the ledger's table, or its table couldn't be made, since the store failed.
abbrev pub IsRefusal : Trees → OpenFault → Type 0
IsRefusal trees fault.NoMemory = ⊤
IsRefusal trees fault.NotALedger = ¬ IsLedger (objects_in trees)
IsRefusal trees (fault.Store error) = trees catalog_tree ≡ []
IsRefusal trees other = ⊥

-- whether a fault is of the file, whose path isn't opened, whose log is there without it, or which is no sound database
abbrev pub is_of_file : OpenFault → Bool
is_of_file fault.NoMemory = true
is_of_file (fault.File error) = true
is_of_file fault.LogWithoutFile = true
is_of_file other = false

-- whether it is of the tables
abbrev pub is_of_table : OpenFault → Bool
is_of_table fault.NoMemory = true
is_of_table fault.NotALedger = true
is_of_table (fault.Store error) = true
is_of_table other = false

abbrev pub is_of_opening : OpenFault → Bool
is_of_opening error = is_of_file error || is_of_table error
