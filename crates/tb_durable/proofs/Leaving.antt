-- What a crash leaves of a ledger's journal.
use Rattle.std.proofs.Common.{◌≡◌, ◌∙◌, inl, inr, ℕ, Bool, true, false, List, [], ◌∷◌, ◌++◌, Option, IsTrue, refl, sym, ap, subst, arith, append-nil}
use Rattle.tb_durable.proofs.Words.{Row, Trees, View, IsClean, Input, Outcomes, LedgerState, apply_result, apply_step, BareLedgerState, group_in, jobs_row, pulse_row, map-append, groups_of, rows_of, HasGroups, IsInFile, IsKept, LeavesJournal, MayHave}
use Rattle.sqlite_trees.specs.declared.error.StoreError.{StoreError}
use Rattle.tb_core.specs.declared.parcel.Parcel.{Parcel}
use Rattle.tb_core.specs.declared.parcel.Parcel.TheVariants as parcel
use Rattle.tb_durable.specs.declared.ledger.DurableLedger.{DurableLedger}
use Rattle.tb_durable.specs.clauses.Parcels.{AppliesInFile}
use Rattle.tb_durable.proofs.Applied.{stood}

-- the rows of a ledger that hasn't stopped have its journal
pub has_groups : {view : View} {bare : BareLedgerState} {ledger : LedgerState} → IsKept view bare ledger → IsClean view
    → bare.stopped ≡ false → HasGroups (view.committed 0) ledger.opening ledger.groups
has_groups kept clean goes_on =
    let journal = (kept.stored clean goes_on).1 in
    record {
      first = journal.first;
      entries = journal.entries;
      is = journal.is;
      opened = ap (λ (l : LedgerState). l.opening) kept.journal.same ∙ journal.opened;
      has = sym (ap groups_of journal.is) ∙ kept.rows clean goes_on;
    }

-- with one row more they have its group too
one_group_more : {rows grown : List Row} {opening : ℕ} {groups : List (List Input)} (row : Row) → HasGroups rows opening groups
    → grown ≡ rows ++ row ∷ [] → HasGroups grown opening (groups ++ group_in row ∷ [])
one_group_more row has is = record {
  first = has.first;
  entries = has.entries ++ row ∷ [];
  is = is ∙ ap (λ all. all ++ row ∷ []) has.is;
  opened = has.opened;
  has = map-append group_in has.entries (row ∷ []) ∙ ap (λ groups. groups ++ group_in row ∷ []) has.has;
}

-- while the store is open, a crash leaves its rows
pub leaves_rows : {view : View} {recovers : Trees → Type 0} {bare : BareLedgerState} {ledger : LedgerState} (in_doubt : Bool)
    → IsKept view bare ledger → bare.stopped ≡ false → ((db : Trees) → IsTrue view.is_open → recovers db → db ≡ view.committed)
    → IsClean view → LeavesJournal recovers in_doubt ledger
leaves_rows {ledger} in_doubt kept goes_on settled clean db left =
    inl (subst (λ (t : Trees). HasGroups (t 0) ledger.opening ledger.groups)
    (sym (settled db (kept.stored clean goes_on).0.is_open left)) (has_groups kept clean goes_on))

-- the rows with those of a parcel after them, which is in doubt
in_doubt_with : {rows grown : List Row} {in_doubt : Bool} (ledger : LedgerState) (place : ℕ) (handed : Parcel)
    → HasGroups rows ledger.opening ledger.groups → grown ≡ rows ++ rows_of place handed → in_doubt ≡ true
    → MayHave in_doubt ledger grown
in_doubt_with ledger place (parcel.Batch jobs) has is doubt =
    inr (doubt, group_in (jobs_row place jobs), one_group_more (jobs_row place jobs) has is)
in_doubt_with ledger place (parcel.Pulse moment) has is doubt =
    inr (doubt, group_in (pulse_row place moment), one_group_more (pulse_row place moment) has is)
in_doubt_with {rows} ledger place (parcel.Return job cause) has is doubt =
    inl (subst (λ all. HasGroups all ledger.opening ledger.groups) (sym (is ∙ append-nil rows)) has)
in_doubt_with {rows} ledger place parcel.Last has is doubt =
    inl (subst (λ all. HasGroups all ledger.opening ledger.groups) (sym (is ∙ append-nil rows)) has)

-- a ledger with the same journal
same_journal : {recovers : Trees → Type 0} {in_doubt : Bool} (old new : LedgerState)
    → (new.groups ≡ old.groups) × (new.opening ≡ old.opening) → LeavesJournal recovers in_doubt old → LeavesJournal recovers in_doubt new
same_journal {recovers} {in_doubt} old new same leaves =
    subst (λ opening. LeavesJournal recovers in_doubt (record old { opening = opening; groups = new.groups })) (sym same.1)
    (subst (λ groups. LeavesJournal recovers in_doubt (record old { groups = groups })) (sym same.0) leaves)

-- a store that is open has nothing in doubt
abbrev pub Settles : {S : Type 0} → (S → View) → (S → Trees → Type 0) → Type 0
Settles {S} view recovers = (store : S) (db : Trees) → IsTrue (view store).is_open → recovers store db → db ≡ (view store).committed

module _ {S : Type 0} {view : S → View} {recovers : S → Trees → Type 0} {blamed : S → Option StoreError}
    {before after : DurableLedger S} {handed : Parcel} {outcomes : Outcomes} (settled : Settles view recovers)
    (said : AppliesInFile view recovers blamed before handed outcomes after) where
  module _ (old : LedgerState) (was : IsInFile view recovers before old) (clean : IsClean (view after.table.store)) where
    clean_before : IsClean (view before.table.store)
    clean_before = omega (arith, said.clean)

    -- it stopped at this parcel, or before it
    stopped_at : (went : Bool) → before.bare.stopped ≡ went → after.bare.stopped ≡ true
        → LeavesJournal (recovers after.table.store) after.in_doubt old
    stopped_at true went stop =
        subst (λ (d : DurableLedger S). LeavesJournal (recovers d.table.store) d.in_doubt old) (sym (said.stays went))
        (was.leaves clean_before)
    stopped_at false went stop = by after.in_doubt refl
      where
        was_there : (db : Trees) → recovers before.table.store db → HasGroups (db 0) old.opening old.groups
        was_there db there =
            subst (λ (t : Trees). HasGroups (t 0) old.opening old.groups)
            (sym (settled before.table.store db (was.kept.stored clean_before went).0.is_open there))
            (has_groups was.kept clean_before went)

        by : (doubt : Bool) → after.in_doubt ≡ doubt → LeavesJournal (recovers after.table.store) after.in_doubt old
        by false sure = λ db left. inl (was_there db (said.certain stop sure db left))
        by true doubt = λ db left.
            elim (said.crash was.kept.stored db left) [
              | inl there ↦ inl (was_there db there)
              | inr more ↦ in_doubt_with old before.bare.places handed (has_groups was.kept clean_before went) more doubt
            ]

    -- what a parcel leaves has the journal of the ledger after it
    pub leaves_after : (new : LedgerState) (refused : Bool) → apply_result new outcomes ≡ apply_step refused old handed
        → IsKept (view after.table.store) after.bare new → LeavesJournal (recovers after.table.store) after.in_doubt new
    leaves_after new refused step kept = by after.bare.stopped refl
      where
        by : (stops : Bool) → after.bare.stopped ≡ stops → LeavesJournal (recovers after.table.store) after.in_doubt new
        by false goes_on = leaves_rows after.in_doubt kept goes_on (settled after.table.store) clean
        by true stop =
            same_journal old new
            (stood handed old new outcomes refused step (ap (λ (l : LedgerState). l.stopped) kept.journal.same ∙ stop))
            (stopped_at before.bare.stopped refl stop)
