-- Where one more is added to what is to be tried again.
use Rattle.std.proofs.Common.{refl, ap, sym, ◌∙◌, arith, ◌≡◌, ◌<◌, ◌≤◌, ℕ, zero, suc, Bool, true, false, List, [], ◌∷◌}
use Rattle.tb_figures.proofs.Words.{insert, nat_lt, if◌then◌else◌, AreFrom, AreOrdered, IsIndexFor, inserted}
use Rattle.tb_figures.specs.declared.retries.Waiting.{Waiting}

module _ {T : Type 0} (new : Waiting T) where
  is_before : (one : Waiting T) → new.moment < one.moment → nat_lt new.moment one.moment ≡ true
  is_before one up = grind (arith, up)

  is_after : (one : Waiting T) → one.moment ≤ new.moment → nat_lt new.moment one.moment ≡ false
  is_after one up = grind (arith, up)

  -- by an index, and by the moments
  pub insert_is : (waiting : List (Waiting T)) (index : ℕ) → IsIndexFor waiting new.moment index
      → insert waiting index new ≡ inserted new waiting
  insert_is [] zero is = refl
  insert_is [] (suc index) is = refl
  insert_is (one ∷ others) zero is =
      sym (ap (λ before. if before then new ∷ one ∷ others else one ∷ inserted new others)
      (is_before one (is.after one (omega arith))))
  insert_is (one ∷ others) (suc index) is =
      ap (λ xs. one ∷ xs) (insert_is others index (record {
        within = omega (arith, is.within);
        before = λ k d below. is.before (suc k) d (omega (arith, below));
        after = λ d below. is.after d (omega (arith, below));
      }))
      ∙ sym (ap (λ before. if before then new ∷ one ∷ others else one ∷ inserted new others)
      (is_after one (is.before 0 one (omega arith))))

  from_more : (moment : ℕ) (waiting : List (Waiting T)) → moment ≤ new.moment → AreFrom moment waiting
      → AreFrom moment (inserted new waiting)
  from_more moment [] early from = (early, tt)
  from_more moment (one ∷ others) early from =
      by (nat_lt new.moment one.moment) (from_more moment others early from.1)
    where
      by : (before : Bool) → AreFrom moment (inserted new others)
          → AreFrom moment (if before then new ∷ one ∷ others else one ∷ inserted new others)
      by true more = (early, from)
      by false more = (from.0, more)

  from_later : (moment later : ℕ) (waiting : List (Waiting T)) → moment ≤ later → AreFrom later waiting
      → AreFrom moment waiting
  from_later moment later [] up from = tt
  from_later moment later (one ∷ others) up from =
      (omega (arith, up, from.0), from_later moment later others up from.1)

  -- what is ordered stays so
  pub ordered_more : (waiting : List (Waiting T)) → AreOrdered waiting → AreOrdered (inserted new waiting)
  ordered_more [] are = (tt, tt)
  ordered_more (one ∷ others) are = by (nat_lt new.moment one.moment) refl (ordered_more others are.1)
    where
      by : (before : Bool) → nat_lt new.moment one.moment ≡ before → AreOrdered (inserted new others)
          → AreOrdered (if before then new ∷ one ∷ others else one ∷ inserted new others)
      by true is more =
          let up : new.moment ≤ one.moment = grind (arith, is) in
          ((up, from_later new.moment one.moment others up are.0), are)
      by false is more =
          let up : one.moment ≤ new.moment = grind (arith, is) in
          (from_more one.moment others up are.0, more)
