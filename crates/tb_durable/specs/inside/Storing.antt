-- A row that is put into the table, and the parcel that it has.
use Rattle.std.specs.Prelude.{◌≡◌, ◌⊎◌, ◌≤◌, true, false, Option, Some, Result, OnOk, IfErr}
use Rattle.tb_core.specs.declared.outcomes.Outcomes.{Outcomes}
use Rattle.tb_core.specs.declared.parcel.Parcel.{Parcel}
use Rattle.tb_core.specs.claim.AnyLedger.{Applying, IsWithJournal}
use Rattle.tb_core.specs.claim.BareLedger.{Applies, after_refusal, refusal_of}
use Rattle.sqlite_value.specs.Order.{Row}
use Rattle.sqlite_trees.specs.Tree.{Trees, put_row}
use Rattle.sqlite_trees.specs.View.{View, IsClean, doubt, Tells}
use Rattle.sqlite_trees.specs.declared.error.StoreError.{StoreError}
use Rattle.sqlite_trees.specs.declared.error.StoreError.TheVariants.{OutOfMemory}
use Rattle.tb_durable.specs.declared.counts.PacketCounts.{PacketCounts}
use Rattle.tb_durable.specs.declared.ledger.DurableLedger.{DurableLedger}
use Rattle.tb_durable.specs.declared.table.NotStored.{NotStored}
use Rattle.tb_durable.specs.claim.Durable.{Adds, IsAdded, LeavesNothingNew}
use Rattle.tb_durable.specs.clauses.Parcels.{FailsToCommit}

-- a row was put and committed, or wasn't stored
pub record StoresRow {S : Type 0} (view : S → View) (recovers : S → Trees → Type 0) (blamed : S → Option StoreError) (old : S) (row : Row)
    (result : Result (Unit {0}) NotStored) (new : S) : Type 0 where
  pub ok : OnOk result (IsClean (view new) → Adds (view old) (view new) row)
  pub crash : (db : Trees) → recovers new db → recovers old db ⊎ IsAdded (view old) row db
  pub refused : IfErr result (λ error. error.in_doubt ≡ false → LeavesNothingNew (recovers old) (recovers new))
  pub uncertain : IfErr result (λ error. error.in_doubt ≡ true → FailsToCommit view old (put_row row) new)
  pub clean : doubt (view old).is_clean ≤ doubt (view new).is_clean
  pub told : IfErr result (λ error. Tells (blamed new) error.error)

-- a stored parcel was applied, and counted unless memory ran out, and at another the ledger stopped
pub record Finishes {S : Type 0} (stored : Result (Unit {0}) NotStored) (counts : PacketCounts) (old : DurableLedger S)
    (handed : Parcel) (outcomes : Outcomes) (new : DurableLedger S) : Type 0 where
  pub counted : OnOk stored (new.bare.stopped ≡ false → new.counts ≡ counts)
  pub uncounted : new.bare.stopped ≡ true → new.counts ≡ old.counts
  pub settings : new.settings ≡ old.settings
  pub doubt : OnOk stored (new.in_doubt ≡ new.bare.stopped)
  pub no_memory : OnOk stored (new.bare.stopped ≡ true → new.fault ≡ Some OutOfMemory)
  pub no_fault : OnOk stored (new.bare.stopped ≡ false → new.fault ≡ old.fault)
  pub applied : OnOk stored (Applies handed old.bare outcomes new.bare)
  pub in_doubt : IfErr stored (λ error. new.in_doubt ≡ error.in_doubt)
  pub fault : IfErr stored (λ error. new.fault ≡ Some error.error)
  pub stopped : IfErr stored (λ error. new.bare ≡ after_refusal old.bare handed)
  pub refused : IfErr stored (λ error. outcomes ≡ refusal_of handed)
  pub applying : Applying (IsWithJournal old.bare) handed outcomes (IsWithJournal new.bare)
