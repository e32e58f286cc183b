-- Which store is opened at a path.
use Rattle.std.proofs.Common.{◌≡◌, ◌⊎◌, ◌≤◌, ◌∙◌, inl, inr, Bool, true, false, List, [], ◌∷◌, refl, sym, subst, ap, arith, map, length, slice_index_or, IsTrue}
use Rattle.std.specs.Prelude.{IfOk, Result, Ok, Err}
use Rattle.sqlite_trees.specs.Tree.{Trees}
use Rattle.sqlite_trees.specs.View.{View, IsClean, IsRolledBack, doubt}
use Rattle.sqlite_trees.specs.Objects.{catalog_tree}
use Rattle.sqlite_trees.proofs.Doubt.{no_doubt}
use Rattle.tb_durable.specs.clauses.Opened.{IsLedger, IsPrepared, MakesTable, objects_in}

pub nil_from_map : {A B : Type 0} (f : A → B) (all : List A) → map f all ≡ [] → all ≡ []
nil_from_map f [] is = refl
nil_from_map f (a ∷ all) is = absurd cc

pub clean_if_open : (v : View) → (v.is_clean ≡ false → v.is_open ≡ false) → IsTrue v.is_open → IsClean v
clean_if_open v dirty opened = no_doubt v.is_clean (go v.is_clean refl)
  where
    go : (b : Bool) → v.is_clean ≡ b → IsTrue v.is_clean
    go true e = e
    go false e = absurd (let shut = dirty e in cc)

pub prepared : {before mid now : View} → IsRolledBack before mid → doubt before.is_clean ≤ doubt mid.is_clean
    → doubt mid.is_clean ≤ doubt now.is_clean → IsClean now → IsTrue now.is_open
    → (((now ≡ mid) × IsLedger (objects_in mid.trees)) ⊎ ((mid.trees catalog_tree ≡ []) × MakesTable mid now)) → IsPrepared before now
prepared {before} {mid} {now} back before_clean mid_clean clean opened (inl (same, one)) =
    let is_open = ap (λ (v : View). v.is_open) (sym same) ∙ opened in
    let was : IsClean mid = omega (arith, mid_clean, clean) in
    let found = ap (λ (v : View). v.committed) same ∙ (back.kept was).committed is_open in
    let listed = subst (λ trees. IsLedger (objects_in trees)) (back.undone is_open).0 one in
    record {
      clean = omega (arith, before_clean, was);
      kept = inl (found, listed);
      table = subst (λ trees. IsLedger (objects_in trees)) (sym found) listed;
    }
prepared {before} {mid} {now} back before_clean mid_clean clean opened (inr made) =
    let is_open = sym made.1.is_open ∙ opened in
    let was : IsClean mid = omega (arith, mid_clean, clean) in
    record {
      clean = omega (arith, before_clean, was);
      kept = inr (ap (λ (t : Trees). t catalog_tree) (sym (back.undone is_open).0) ∙ made.0, made.1.empty);
      table = made.1.listed;
    }

pub if_ok : {A E : Type 0} {P Q : A → Type 0} (result : Result A E) → ((a : A) → P a → Q a) → IfOk result P → IfOk result Q
if_ok (Ok a) more has = more a has
if_ok (Err e) more has = tt

pub one-item : {X : Type 0} (xs : List X) {item : X} → length xs ≡ 1 → item ≡ slice_index_or xs 0 item → xs ≡ item ∷ []
one-item [] one is = absurd cc
one-item (x ∷ []) one is = ap (λ y. y ∷ []) (sym is)
one-item (x ∷ y ∷ xs) one is = absurd (omega (arith, one))
