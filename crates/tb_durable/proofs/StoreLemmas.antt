-- One row put and committed.
use Rattle.std.proofs.Common.{◌≡◌, ◌⊎◌, ◌≤◌, inl, inr, Bool, true, false, List, [], ◌∷◌, ◌++◌, refl, sym, ap, subst, ◌∙◌, arith, append-nil, append_assoc, Option, Some, IsTrue}
use Rattle.tb_durable.proofs.Words.{unwrap_or, Err, Row, Table, Trees, put_row, from_key, order_of, sought, View, IsClean, doubt, SetsTree, Advances, IsRolledBack, with_cursor, IsSettled, IsReading, IsAdded, LeavesNothingNew}
use Rattle.sqlite_value.specs.declared.keys.Order.{Order}
use Rattle.sqlite_trees.specs.View.{Tells}
use Rattle.sqlite_trees.specs.declared.error.StoreError.{StoreError}
use Rattle.tb_durable.specs.declared.table.NotStored.{NotStored}
use Rattle.tb_durable.specs.inside.Storing.{StoresRow}
use Rattle.sqlite_trees.specs.declared.store.Direction.TheVariants.{Forward}
use Rattle.sqlite_trees.proofs.Doubt.{no_doubt}

module _ (view : View) (shut : view.is_open ≡ false → IsTrue view.is_broken) (sound : view.is_broken ≡ false) where
  pub open_if_sound : IsTrue view.is_open
  open_if_sound = go view.is_open refl
    where
      go : (b : Bool) → view.is_open ≡ b → IsTrue view.is_open
      go true e = e
      go false e = absurd (let broken = shut e in cc)

  pub clean_if_sound : (view.is_clean ≡ false → view.is_open ≡ false) → IsClean view
  clean_if_sound dirty = no_doubt view.is_clean (go view.is_clean refl)
    where
      go : (b : Bool) → view.is_clean ≡ b → IsTrue view.is_clean
      go true e = e
      go false e = absurd (let broken = shut (dirty e) in cc)

-- if memory ran out first, nothing is stored, and no disk failed
pub without_memory : {S : Type 0} {view : S → View} {recovers : S → Trees → Type 0} {blamed : S → Option StoreError} {store : S} {row : Row}
    {error : NotStored} → error.in_doubt ≡ false → ((blamed : Option StoreError) → Tells blamed error.error)
    → StoresRow view recovers blamed store row (Err error) store
without_memory {blamed} {store} certain told = record {
  ok = tt;
  crash = λ db left. inl left;
  refused = λ certain db left. left;
  uncertain = λ doubt. absurd cc;
  clean = omega arith;
  told = told (blamed store);
}

-- a crash after the commit leaves the row in its place, or what it could leave before
pub added : {old : View} {row : Row} {was put now : Trees → Type 0} (mid : View) → (mid.is_open ≡ false → IsTrue mid.is_broken)
    → (mid.is_clean ≡ false → mid.is_open ≡ false) → doubt old.is_clean ≤ doubt mid.is_clean
    → (IsClean mid → SetsTree old mid 0 (put_row row)) → LeavesNothingNew was put
    → ((db : Trees) → now db → ((mid.is_broken ≡ false) × (db ≡ mid.trees)) ⊎ put db)
    → (db : Trees) → now db → was db ⊎ IsAdded old row db
added mid shut dirty falls set quiet crash = λ db left.
    elim (crash db left) [
      | inl new ↦
          let clean : doubt mid.is_clean ≡ 0 = clean_if_sound mid shut new.0 dirty in
          let it = set clean in
          inr (record {
            clean = omega arith;
            sound = it.sound;
            rows = ap (λ (t : Trees). t 0) new.1 ∙ ap (λ (v : View). v.trees 0) it.is;
          })
      | inr before ↦ inl (quiet db before)
    ]

-- ---- the table read in order

-- a store that was rolled back and isn't broken
pub settled_again : (old new : View) → (new.is_open ≡ false → IsTrue new.is_broken) → IsRolledBack old new → IsClean new
    → new.is_broken ≡ false → new.shape 0 ≡ Table → IsSettled new × (new.committed ≡ old.committed)
settled_again old new shut back clean sound shape =
    let opened = open_if_sound new shut sound in
    let same : new.committed ≡ old.committed = (back.kept clean).committed opened in
    (record { is_open = opened; sound = sound; same = (back.undone opened).0 ∙ sym same; shape = shape }, same)

module _ (old new : View) (left : List Row) (is : new ≡ with_cursor old 0 left) where
  pub same_committed : new.committed ≡ old.committed
  same_committed = ap (λ (v : View). v.committed) is

  still_settled : IsSettled old → IsSettled new
  still_settled at_rest =
      record {
        is_open = ap (λ (v : View). v.is_open) is ∙ at_rest.is_open;
        sound = ap (λ (v : View). v.is_broken) is ∙ at_rest.sound;
        same = ap (λ (v : View). v.trees) is ∙ at_rest.same ∙ sym same_committed;
        shape = ap (λ (v : View). v.shape 0) is ∙ at_rest.shape;
      }

  reads : (read : List Row) → IsSettled old → old.committed 0 ≡ read ++ left → IsReading new read
  reads read at_rest all =
      record {
        left = left;
        all = ap (λ (t : Trees). t 0) same_committed ∙ all;
        cursor = ap (λ (v : View). v.cursors 0) is;
        settled = still_settled at_rest;
      }

from_key-all : (order : Order) (rows : List Row) → from_key order [] rows ≡ rows
from_key-all order [] = refl
from_key-all order (row ∷ rows) = refl

-- a cursor that was put before all rows
pub reads_none : (old new : View) (key : Row) → key ≡ [] → IsSettled old
    → new ≡ with_cursor old 0 (sought (order_of (old.shape 0)) Forward key (old.trees 0)) → IsReading new []
reads_none old new key empty at_rest is =
    let order = order_of (old.shape 0) in
    let all : from_key order key (old.trees 0) ≡ old.committed 0 = ap (λ k. from_key order k (old.trees 0)) empty
    ∙ from_key-all order (old.trees 0) ∙ ap (λ (t : Trees). t 0) at_rest.same in
    reads old new (from_key order key (old.trees 0)) is [] at_rest (sym all)

module _ (old new : View) (read : List Row) (reading : IsReading old read) where
  pub left_is : (left : List Row) → old.cursors 0 ≡ Some left → reading.left ≡ left
  left_is left is = ap (λ (rows : Option (List Row)). unwrap_or rows []) (sym reading.cursor ∙ is)

  -- a row more was read
  pub reads_one : (row : Row) → Advances old new 0 row true → IsReading new (read ++ row ∷ [])
  reads_one row next =
      let all : old.committed 0 ≡ (read ++ row ∷ []) ++ next.0 = reading.all
      ∙ ap (λ rows. read ++ rows) (left_is (row ∷ next.0) next.1) ∙ sym (append_assoc read (row ∷ []) next.0) in
      reads old new next.0 next.2 (read ++ row ∷ []) reading.settled all

  -- or all rows had been read
  pub reads_all : (row : Row) → Advances old new 0 row false → IsSettled new × (new.committed 0 ≡ read)
  reads_all row next = (
    subst IsSettled (sym next.1) reading.settled,
    ap (λ (v : View). v.committed 0) next.1 ∙ reading.all ∙ ap (λ rows. read ++ rows) (left_is [] next.0) ∙ append-nil read,
  )

pub advances_same : (old new : View) (row : Row) (found : Bool) → Advances old new 0 row found → new.committed ≡ old.committed
advances_same old new row true next = ap (λ (v : View). v.committed) next.2
advances_same old new row false next = ap (λ (v : View). v.committed) next.1
