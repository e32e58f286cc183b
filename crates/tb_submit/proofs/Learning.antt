-- What a sender learned has no end of its own.
use Rattle.std.proofs.Common.{◌≡◌, ℕ, List, [], ◌∷◌, ◌++◌, refl, ap, sym, ◌∙◌, subst}
use Rattle.tb_submit.proofs.Words.{AllByRecursion, items_from, is_end, IsUnended, Item, Ticket, PassEntry, View, AreUnended, IsSenderView, BeginsWith, TellsOwn, first_pushed, view_learning}
use Rattle.tb_submit.proofs.DrainedQueue.{and_parts, and_made}
use Rattle.tb_submit.proofs.RuleSteps.{each_map, part_append}

unended_front : (xs ys : List Item) → IsUnended (xs ++ ys) → IsUnended xs
unended_front [] ys clear = refl
unended_front (x ∷ xs) ys clear =
    let none = and_parts (is_end x) _ clear in and_made (is_end x) _ none.0 (unended_front xs ys none.1)

learned_open : (number : ℕ) (old u : View) (items : List Ticket) → IsSenderView number old
    → IsUnended (first_pushed old.entries) → TellsOwn (view_learning old u) items
    → AreUnended number (view_learning old u).learned
learned_open number old u items is clear first_refusal =
    let all = first_refusal.0 ++ items in
    let own : items_from number all ≡ first_pushed old.entries =
    (subst (AllByRecursion (λ (e : PassEntry). items_from e.number all ≡ e.pushed)) (ap (λ (v : View). v.entries) is)
    first_refusal.1).0 in
    each_map (BeginsWith all) (λ (seen : List Ticket). IsUnended (items_from number seen)) (view_learning old u).learned
    (λ seen begins. unended_front (items_from number seen) (items_from number begins.0)
    (subst IsUnended (sym own ∙ ap (items_from number) (sym begins.1) ∙ part_append number seen begins.0) clear))
    first_refusal.2

pub still_open : {now : View} (number : ℕ) (old u : View) → IsSenderView number old
    → items_from number old.history ≡ first_pushed old.entries → IsUnended (first_pushed old.entries)
    → now ≡ view_learning old u → (items : List Ticket) × TellsOwn now items
    → IsSenderView number now × (items_from number now.history ≡ first_pushed now.entries) × AreUnended number now.learned
still_open number old u is part clear now_is first_refusal =
    subst (λ (v : View). IsSenderView number v × (items_from number v.history ≡ first_pushed v.entries)
    × AreUnended number v.learned) (sym now_is) (
      ap (λ (v : View). view_learning v u) is,
      part,
      learned_open number old u first_refusal.0 is clear (subst (λ (v : View). TellsOwn v first_refusal.0) now_is first_refusal.1),
    )
