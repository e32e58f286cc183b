-- What a parcel does to a ledger in a file.
use Rattle.std.specs.Prelude.{◌≡◌, ◌⊎◌, ◌≤◌, ◌++◌, ◌||◌, not, Bool, true, false, Option, Some, List, length, map}
use Rattle.std.specs.Option.{is_some}
use Rattle.tb_core.specs.declared.outcomes.Outcomes.{Outcomes}
use Rattle.tb_core.specs.declared.parcel.Parcel.{Parcel}
use Rattle.tb_core.specs.claim.AnyLedger.{Applying, IsWithJournal}
use Rattle.tb_core.specs.declared.parcel.Parcel.TheVariants as parcel
use Rattle.tb_core.specs.claim.BareLedger.{Applies, BareLedgerState, after_refusal, halts, refusal_of}
use Rattle.tb_work.specs.claim.Job.{stub_of}
use Rattle.sqlite_value.specs.Order.{Row}
use Rattle.sqlite_trees.specs.Tree.{Trees}
use Rattle.sqlite_trees.specs.View.{View, IsClean, IsRolledBack, SetsTree, doubt, Tells}
use Rattle.sqlite_trees.specs.declared.error.StoreError.{StoreError}
use Rattle.sqlite_trees.specs.declared.error.StoreError.TheVariants.{OutOfMemory}
use Rattle.tb_durable.specs.declared.counts.PacketCounts.{PacketCounts}
use Rattle.tb_durable.specs.declared.ledger.DurableLedger.{DurableLedger}
use Rattle.tb_durable.specs.claim.Rows.{group_in}
use Rattle.tb_durable.specs.claim.Durable.{IsStored, LeavesNothingNew, LeavesWith, groups_of_parcel, rows_of}
use Rattle.tb_durable.specs.clauses.Counts.{counted_all}
use Rattle.tb_durable.specs.clauses.Entries.{CanBeOpened, HasEntries}

-- Whether nothing of a parcel is stored, however well memory and the disk do: the ledger has stopped, it has no places for the
-- parcel, or a packet doesn't follow its submitter's last.
abbrev pub is_unstored : BareLedgerState → PacketCounts → Parcel → Bool
is_unstored bare counts (parcel.Batch jobs) = halts bare (length jobs) || not (is_some (counted_all counts (map stub_of jobs)))
is_unstored bare counts (parcel.Pulse moment) = halts bare 1
is_unstored bare counts other = true

-- The table was edited, and the commit of that failed. If the disk has returned what was written, nothing else was edited.
pub record FailsToCommit {S : Type 0} (view : S → View) (old : S) (edit : List Row → List Row) (new : S) : Type 0 where
  pub put : S
  pub clean : doubt (view old).is_clean ≤ doubt (view put).is_clean
  pub set : IsClean (view put) → SetsTree (view old) (view put) 0 edit
  pub back : IsRolledBack (view put) (view new)

-- Rows are committed after those that were there, and memory ran out.
pub record RunsOutAfter (old new : View) (rows : List Row) (fault : Option StoreError) : Type 0 where
  pub added : IsClean new → new.committed 0 ≡ old.committed 0 ++ rows
  pub no_memory : fault ≡ Some OutOfMemory

-- A parcel was applied to a ledger in a file, or the ledger stopped at it.
pub record AppliesInFile {S : Type 0} (view : S → View) (recovers : S → Trees → Type 0) (blamed : S → Option StoreError)
    (old : DurableLedger S) (handed : Parcel) (outcomes : Outcomes) (new : DurableLedger S) : Type 0 where
  -- the ledger's state is still the replay of its rows
  pub kept : IsStored (view old.table.store) old.bare → IsStored (view new.table.store) new.bare
  -- unless it stopped, the parcel's row comes after the others
  pub added : IsStored (view old.table.store) old.bare → IsClean (view new.table.store) → new.bare.stopped ≡ false
      → (view new.table.store).committed 0 ≡ (view old.table.store).committed 0 ++ rows_of old.bare.places handed
  -- unless it stopped, the outcomes are those of the ledger in memory
  pub released : new.bare.stopped ≡ false → Applies handed old.bare outcomes new.bare
  -- if it stopped, each packet gets Stopped
  pub refused : IsStored (view old.table.store) old.bare → IsClean (view new.table.store) → new.bare.stopped ≡ true
      → outcomes ≡ refusal_of handed
  -- a crash leaves what it could leave before, or the rows with the parcel's row after them
  pub crash : IsStored (view old.table.store) old.bare
      → LeavesWith (recovers old.table.store) (recovers new.table.store) ((view old.table.store).committed 0)
      (rows_of old.bare.places handed)
  -- if it stopped and isn't in doubt, a crash leaves nothing that it couldn't leave before
  pub certain : new.bare.stopped ≡ true → new.in_doubt ≡ false
      → LeavesNothingNew (recovers old.table.store) (recovers new.table.store)
  -- a parcel leaves it in doubt only if its row was put and the commit failed, or if the row is committed and memory ran out after that
  pub uncertain : IsStored (view old.table.store) old.bare → is_unstored old.bare old.counts handed ≡ false → new.in_doubt ≡ true
      → FailsToCommit view old.table.store (λ rows. rows ++ rows_of old.bare.places handed) new.table.store
      ⊎ RunsOutAfter (view old.table.store) (view new.table.store) (rows_of old.bare.places handed) new.fault
  -- the table is still a ledger's file, with the counts of its packets
  pub entries : IsStored (view old.table.store) old.bare → HasEntries (view old.table.store) old.bare old.counts
      → HasEntries (view new.table.store) new.bare new.counts
  -- what a crash leaves can still be opened
  pub openable : IsStored (view old.table.store) old.bare → HasEntries (view old.table.store) old.bare old.counts
      → CanBeOpened (recovers old.table.store) → CanBeOpened (recovers new.table.store)
  -- if it had stopped before, nothing changes
  pub stays : old.bare.stopped ≡ true → new ≡ old
  -- of a parcel that isn't stored in any case nothing but the ledger's stop remains
  pub unstored : is_unstored old.bare old.counts handed ≡ true → new ≡ record old { bare = after_refusal old.bare handed }
  -- at any other it stops only with a fault, the last error that the store returned, if the store says which
  pub cause : is_unstored old.bare old.counts handed ≡ false → new.bare.stopped ≡ true
      → (error : StoreError) × (new.fault ≡ Some error) × Tells (blamed new.table.store) error
  -- unless it stopped, it has no new fault and no doubt
  pub no_fault : new.bare.stopped ≡ false → new.fault ≡ old.fault
  pub no_doubt : new.bare.stopped ≡ false → old.in_doubt ≡ false → new.in_doubt ≡ false
  -- what it stopped at isn't counted, and its settings stay
  pub uncounted : new.bare.stopped ≡ true → new.counts ≡ old.counts
  pub settings : new.settings ≡ old.settings
  -- whichever journal the ledger had, the parcel was applied to that one
  pub applying : Applying (IsWithJournal old.bare) handed outcomes (IsWithJournal new.bare)
  -- unless it stopped, the parcel's row has its group
  pub says : new.bare.stopped ≡ false → map group_in (rows_of old.bare.places handed) ≡ groups_of_parcel handed
  -- a disk that hasn't returned what was written isn't clean again
  pub clean : doubt (view old.table.store).is_clean ≤ doubt (view new.table.store).is_clean
