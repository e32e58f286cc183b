-- Which row keeps a ledger from being opened.
use Rattle.std.proofs.Common.{◌≡◌, ◌≢◌, ℕ, pos, true, Option, List, ◌∷◌, ◌++◌, sym, ap, subst, ◌∙◌}
use Rattle.tb_durable.proofs.Words.{Int, Row, rowid, View, Advances, BareLedgerState, OpenFault, IsJournal, IsReading, IsCause, IsRowFault}
use Rattle.sqlite_trees.specs.declared.error.StoreError.{StoreError}
use Rattle.tb_durable.specs.declared.fault.OpenFault.TheVariants as fault
use Rattle.tb_durable.specs.clauses.Faults.{TellsStore}
use Rattle.tb_durable.proofs.StoreLemmas.{left_is}

-- a row after those of a journal
next_fault : {rows read : List Row} {bare : BareLedgerState} (row : Row) (left : List Row) → IsJournal read bare
    → rows ≡ read ++ row ∷ left → (error : OpenFault) → IsRowFault bare.places row error → IsCause rows error
next_fault row left read_journal all fault.NoMemory is = tt
next_fault row left read_journal all (fault.Store error) is = tt
next_fault row left read_journal all (fault.File error) is = tt
next_fault row left read_journal all fault.LogWithoutFile is = tt
next_fault row left read_journal all fault.NotALedger is = tt
next_fault row left read_journal all fault.BadSettings is = tt
next_fault row left read_journal all (fault.OtherVersion version) is = absurd is
next_fault {read} {bare} row left read_journal all (fault.OutOfPlace place) is = (
  row,
  record { read = read; left = left; bare = bare; all = all; journal = read_journal; next = sym is.0 },
  subst (λ p. rowid row ≢ Int (pos p)) (sym is.0) is.1,
)
next_fault {read} {bare} row left j all (fault.BadEntry place) is = (
  row,
  record { read = read; left = left; bare = bare; all = all; journal = j; next = sym is.0 },
  subst (λ p. rowid row ≡ Int (pos p)) (sym is.0) is.1,
)

-- what keeps a row from being read is no error of the store
pub row_tells : (place : ℕ) (row : Row) (blamed : Option StoreError) (error : OpenFault) → IsRowFault place row error
    → TellsStore blamed error
row_tells place row blamed fault.NoMemory is = tt
row_tells place row blamed (fault.Store error) is = absurd is
row_tells place row blamed (fault.File error) is = tt
row_tells place row blamed fault.LogWithoutFile is = tt
row_tells place row blamed fault.NotALedger is = tt
row_tells place row blamed fault.BadSettings is = tt
row_tells place row blamed (fault.OtherVersion version) is = tt
row_tells place row blamed (fault.OutOfPlace other) is = tt
row_tells place row blamed (fault.BadEntry other) is = tt

-- the row that a cursor gave after those of a journal
pub row_fault : {old new : View} {read : List Row} {row : Row} {bare : BareLedgerState} → IsReading old read
    → Advances old new 0 row true → IsJournal read bare → (error : OpenFault) → IsRowFault bare.places row error
    → IsCause (old.committed 0) error
row_fault {old} {new} {read} {row} reading next j error is =
    next_fault row next.0 j
    (reading.all ∙ ap (λ rows. read ++ rows) (left_is old new read reading (row ∷ next.0) next.1)) error is
