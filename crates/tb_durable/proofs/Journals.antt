-- A journal with one row more.
use Rattle.std.proofs.Common.{◌≡◌, ◌<◌, ◌+◌, ◌⊎◌, inl, inr, ℕ, pos, false, List, [], ◌∷◌, ◌++◌, refl, sym, ap, subst, ◌∙◌, arith, length, length-append, append-nil, map}
use Rattle.tb_durable.proofs.Words.{flat_map, flat_map-append, map-append, Int, Row, value_cmp, Trees, rowid, put_row, View, Input, BareLedgerState, HasCommitted, new_bare_ledger, group_in, IsBelow, IsFirst, IsJournal, IsSettled, IsStored, Adds, IsAdded, AddsGroup, LeavesWith, groups_of}
use Rattle.sqlite_trees.specs.Tree.{with_tree}
use Rattle.tb_durable.specs.clauses.Parcels.{FailsToCommit}
use Rattle.tb_durable.proofs.RowLemmas.{all_below_later, all_below_push, first-Less, put_row-last, place-Less}

abbrev all_in : List (List Input) → List Input
all_in groups = flat_map (λ group. group) groups

length-all_in : (groups : List (List Input)) (group : List Input)
    → length (all_in (groups ++ group ∷ [])) ≡ length (all_in groups) + length group
length-all_in groups group =
    ap length (flat_map-append (λ (group : List Input). group) groups (group ∷ []))
    ∙ length-append (all_in groups) (group ++ [])
    ∙ ap (λ one. length (all_in groups) + length one) (append-nil group)

-- the places that a group takes
pub more_places : (rows : List Row) (old new : BareLedgerState) (group : List Input) → IsJournal rows old
    → AddsGroup old new group → new.places ≡ old.places + length group
more_places rows old new group j adds =
    let groups = map group_in j.entries in
    omega (arith, j.committed.counted, (adds groups j.committed).0.counted, length-all_in groups group)

-- the journal of a ledger that has committed nothing
pub new_journal : (row : Row) (clock : ℕ) (bare : BareLedgerState) → IsFirst row clock → bare ≡ new_bare_ledger clock
    → IsJournal (row ∷ []) bare
new_journal row clock bare first is =
    subst (IsJournal (row ∷ [])) (sym is)
    (record {
      first = row;
      entries = [];
      is = refl;
      opened = sym first.starts;
      committed = record { machine = refl; counted = refl };
      below = (ap (λ v. value_cmp v (Int (pos 0))) first.place ∙ first-Less, tt);
    })

-- the group of a row at the next place was committed too
pub one_more : (rows : List Row) (row : Row) (old new : BareLedgerState) → IsJournal rows old
    → AddsGroup old new (group_in row) → 0 < length (group_in row) → rowid row ≡ Int (pos old.places)
    → IsJournal (rows ++ row ∷ []) new
one_more rows row old new journal adds some placed =
    let groups = map group_in journal.entries in
    let next = adds groups journal.committed in
    let more : old.places < new.places = omega (
      arith,
      journal.committed.counted,
      next.0.counted,
      some,
      length-all_in groups (group_in row),
    ) in
    let place : IsBelow new.places row = ap (λ v. value_cmp v (Int (pos new.places))) placed ∙ place-Less old.places new.places more in
    record {
      first = journal.first;
      entries = journal.entries ++ row ∷ [];
      is = ap (λ all. all ++ row ∷ []) journal.is;
      opened = next.1 ∙ journal.opened;
      committed = subst (HasCommitted new) (sym (map-append group_in journal.entries (row ∷ []))) next.0;
      below = all_below_push new.places rows row (all_below_later old.places new.places rows more journal.below) place;
    }

-- the groups of a journal with more rows
pub groups_more : (rows more : List Row) (first : Row) (entries : List Row) → rows ≡ first ∷ entries
    → groups_of (rows ++ more) ≡ groups_of rows ++ map group_in more
groups_more rows more first entries is =
    ap (λ all. groups_of (all ++ more)) is ∙ map-append group_in entries more
    ∙ ap (λ all. groups_of all ++ map group_in more) (sym is)

-- ---- over a store

module _ {old : View} {before : BareLedgerState} (row : Row) (at_rest : IsSettled old)
    (j : IsJournal (old.committed 0) before) (at : rowid row ≡ Int (pos before.places)) where
  last : put_row row (old.trees 0) ≡ old.committed 0 ++ row ∷ []
  last = ap (λ (t : Trees). put_row row (t 0)) at_rest.same ∙ put_row-last row before.places (old.committed 0) at j.below

  -- the row is stored
  pub added_last : (new : View) → Adds old new row → new.committed 0 ≡ old.committed 0 ++ row ∷ []
  added_last new adds = adds.rows ∙ last

  -- and its group is committed
  pub stored_more : (new : View) (after : BareLedgerState) → Adds old new row → AddsGroup before after (group_in row)
      → 0 < length (group_in row) → IsSettled new × IsJournal (new.committed 0) after
  stored_more new after adds group some = (
    adds.settled,
    subst (λ rows. IsJournal rows after) (sym (added_last new adds))
        (one_more (old.committed 0) row before after j group some at),
  )

  pub left_last : (db : Trees) → IsAdded old row db → db 0 ≡ old.committed 0 ++ row ∷ []
  left_last db added = added.rows ∙ last

-- the row was put after the others, and the commit of that failed
pub fails_after : {S : Type 0} {view : S → View} {old new : S} {before : BareLedgerState} (row : Row) → IsStored (view old) before
    → before.stopped ≡ false → rowid row ≡ Int (pos before.places) → FailsToCommit view old (put_row row) new
    → FailsToCommit view old (λ rows. rows ++ row ∷ []) new
fails_after {view} {old} row has goes_on at fails = record {
  put = fails.put;
  clean = fails.clean;
  set = λ clean.
      let at_rest = has (omega (arith, fails.clean)) goes_on in
      let set = fails.set clean in
      record {
        sound = set.sound;
        is = set.is ∙ ap (λ rows. record (view old) { trees = with_tree (view old).trees 0 rows; cursors = (view fails.put).cursors })
            (last row at_rest.0 at_rest.1 at ∙ ap (λ (t : Trees). t 0 ++ row ∷ []) (sym at_rest.0.same));
      };
  back = fails.back;
}

-- a crash leaves the row after the others, or what it could leave before
pub leaves_with_row : {old : View} {before : BareLedgerState} {was now : Trees → Type 0} (row : Row) → IsStored old before
    → before.stopped ≡ false → rowid row ≡ Int (pos before.places)
    → ((db : Trees) → now db → was db ⊎ IsAdded old row db) → LeavesWith was now (old.committed 0) (row ∷ [])
leaves_with_row row has goes_on at crash db left =
    elim (crash db left) [
      | inl there ↦ inl there
      | inr added ↦
          let at_rest = has added.clean goes_on in
          inr (left_last row at_rest.0 at_rest.1 at db added)
    ]
