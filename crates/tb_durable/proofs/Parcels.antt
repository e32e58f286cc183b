-- What a parcel does to a ledger in a file: its row is put, and then it is applied, or the ledger stops.
use Rattle.std.proofs.Common.{◌≡◌, ◌<◌, ◌∙◌, inl, inr, true, false, List, [], ◌∷◌, ◌++◌, Option, Some, refl, sym, ap, subst, arith, length, map}
use Rattle.tb_durable.proofs.Words.{OnOk, Result, Ok, Err, Row, Trees, View, IsClean, Input, Outcomes, BareLedgerState, PacketCounts, LeavesWith, groups_of_parcel, rows_of, IsEntryRow, Numbered, stub_of, group_in}
use Rattle.tb_core.specs.declared.parcel.Parcel.{Parcel}
use Rattle.tb_core.specs.declared.parcel.Parcel.TheVariants as parcel
use Rattle.tb_core.specs.claim.BareLedger.{after_refusal, halts}
use Rattle.tb_durable.specs.clauses.Counts.{counted_all}
use Rattle.sqlite_trees.specs.declared.error.StoreError.{StoreError}
use Rattle.sqlite_trees.specs.declared.error.StoreError.TheVariants.{OutOfMemory}
use Rattle.tb_durable.specs.declared.ledger.DurableLedger.{DurableLedger}
use Rattle.tb_durable.specs.declared.table.Table.{Table}
use Rattle.tb_durable.specs.declared.table.NotStored.{NotStored}
use Rattle.tb_durable.specs.clauses.Parcels.{AppliesInFile, FailsToCommit, is_unstored}
use Rattle.tb_durable.specs.inside.Storing.{Finishes, StoresRow}
use Rattle.tb_durable.proofs.Applied.{adds_group, gives_refusal}
use Rattle.tb_durable.proofs.EntryLemmas.{entry_place}
use Rattle.tb_durable.proofs.FileLemmas.{crash_opens, stored_file}
use Rattle.tb_durable.proofs.Journals.{added_last, fails_after, leaves_with_row, stored_more}

-- a batch is stored if it has places, and its packets follow
pub stored_batch : (bare : BareLedgerState) (before after : PacketCounts) (jobs : List Numbered) → halts bare (length jobs) ≡ false
    → counted_all before (map stub_of jobs) ≡ Some after → is_unstored bare before (parcel.Batch jobs) ≡ false
stored_batch bare before after jobs fits follow = rw (fits, follow) refl

-- The row of a parcel with a group, of a ledger that hasn't stopped: an entry's at the next place, with the counts after it.
pub record IsNextRow {S : Type 0} (old : DurableLedger S) (handed : Parcel) (row : Row) (group : List Input) (after : PacketCounts)
    : Type 0 where
  pub goes_on : old.bare.stopped ≡ false
  pub is_stored : is_unstored old.bare old.counts handed ≡ false
  pub rows : rows_of old.bare.places handed ≡ row ∷ []
  pub entry : IsEntryRow old.bare.places old.counts row after
  pub groups : groups_of_parcel handed ≡ group ∷ []
  pub some : 0 < length group
  pub stops : (after_refusal old.bare handed).stopped ≡ true

module _ {S : Type 0} {view : S → View} {recovers : S → Trees → Type 0} {blamed : S → Option StoreError} {old new : DurableLedger S}
    {handed : Parcel} {row : Row} {group : List Input} {after : PacketCounts} {outcomes : Outcomes} (next : IsNextRow old handed row group after) where
  pub in_file : (stored : Result (Unit {0}) NotStored) → StoresRow view recovers blamed old.table.store row stored new.table.store
      → OnOk stored (group_in row ≡ group) → {table : Table S} → Finishes stored after (record old { table = table }) handed outcomes new
      → AppliesInFile view recovers blamed old handed outcomes new
  in_file (Ok done) stores reads finishes =
      let at = entry_place old.bare.places old.counts after row next.entry in
      let was : IsClean (view new.table.store) → IsClean (view old.table.store) = λ clean. omega (arith, stores.clean) in
      record {
        kept = λ has clean on.
            let rest = has (was clean) next.goes_on in
            stored_more row rest.0 rest.1 at (view new.table.store) new.bare (stores.ok clean)
            (adds_group handed finishes.applied (next.groups ∙ ap (λ one. one ∷ []) (sym reads)) on)
            (subst (λ inputs. 0 < length inputs) (sym reads) next.some);
        added = λ has clean on.
            let rest = has (was clean) next.goes_on in
            added_last row rest.0 rest.1 at (view new.table.store) (stores.ok clean)
            ∙ ap (λ more. (view old.table.store).committed 0 ++ more) (sym next.rows);
        released = λ on. finishes.applied;
        refused = λ has clean stop.
            let journal = (has (was clean) next.goes_on).1 in
            gives_refusal handed finishes.applied (map group_in journal.entries) journal.committed stop;
        crash = λ has. subst (LeavesWith (recovers old.table.store) (recovers new.table.store) ((view old.table.store).committed 0))
            (sym next.rows) (leaves_with_row row has next.goes_on at stores.crash);
        certain = λ stop certain. absurd (let doubt = finishes.doubt in cc);
        uncertain = λ has stored doubt. inr (record {
          added = λ clean.
              let rest = has (was clean) next.goes_on in
              added_last row rest.0 rest.1 at (view new.table.store) (stores.ok clean)
              ∙ ap (λ more. (view old.table.store).committed 0 ++ more) (sym next.rows);
          no_memory = finishes.no_memory (sym finishes.doubt ∙ doubt);
        });
        entries = λ has entries clean on.
            let rest = has (was clean) next.goes_on in
            rw (finishes.counted on) (stored_file rest.0 rest.1 (entries (was clean) next.goes_on) next.entry (stores.ok clean));
        openable = λ has entries. crash_opens has entries next.goes_on next.entry stores.crash;
        stays = λ stopped. absurd (let on = next.goes_on in cc);
        unstored = λ is. absurd (let no = next.is_stored in cc);
        cause = λ no stop. (OutOfMemory, finishes.no_memory stop, λ kind is fault. absurd cc);
        no_fault = finishes.no_fault;
        no_doubt = λ on sure. finishes.doubt ∙ on;
        uncounted = finishes.uncounted;
        settings = finishes.settings;
        applying = finishes.applying;
        says = λ on. ap (map group_in) next.rows ∙ ap (λ one. one ∷ []) reads ∙ sym next.groups;
        clean = stores.clean;
      }
  in_file (Err error) stores reads finishes =
      let at = entry_place old.bare.places old.counts after row next.entry in
      let stop : new.bare.stopped ≡ true = ap (λ (b : BareLedgerState). b.stopped) finishes.stopped ∙ next.stops in
      record {
        kept = λ has clean on. absurd cc;
        added = λ has clean on. absurd cc;
        released = λ on. absurd cc;
        refused = λ has clean stop. finishes.refused;
        crash = λ has. subst (LeavesWith (recovers old.table.store) (recovers new.table.store) ((view old.table.store).committed 0))
            (sym next.rows) (leaves_with_row row has next.goes_on at stores.crash);
        certain = λ stop certain. stores.refused (sym finishes.in_doubt ∙ certain);
        uncertain = λ has stored doubt. inl (subst (λ rows. FailsToCommit view old.table.store (λ before. before ++ rows) new.table.store)
            (sym next.rows) (fails_after row has next.goes_on at (stores.uncertain (sym finishes.in_doubt ∙ doubt))));
        entries = λ has entries clean on. absurd cc;
        openable = λ has entries. crash_opens has entries next.goes_on next.entry stores.crash;
        stays = λ stopped. absurd (let on = next.goes_on in cc);
        unstored = λ is. absurd (let no = next.is_stored in cc);
        cause = λ no stop. (error.error, finishes.fault, stores.told);
        no_fault = λ on. absurd cc;
        no_doubt = λ on sure. absurd cc;
        uncounted = finishes.uncounted;
        settings = finishes.settings;
        applying = finishes.applying;
        says = λ on. absurd cc;
        clean = stores.clean;
      }
