-- Batches that a gate let through, one after the other.
use Rattle.std.proofs.Common.{refl, ap, ◌∙◌, subst, sym, append_assoc, append-nil, ◌≡◌, ℕ, true, arith, length, List, [], ◌∷◌, ◌++◌}
use Rattle.std.proofs.lemmas.Bool.{eqb-true}
use Rattle.tb_pipe.proofs.Words.{◌==◌, Parcel, is_batch, next_number, number_after, AreLetThrough, AreCleared}

-- one parcel more is counted
number_more : (number : ℕ) (xs : List Parcel) (handed : Parcel)
    → number_after number (xs ++ handed ∷ []) ≡ next_number (number_after number xs) handed
number_more number [] handed = refl
number_more number (x ∷ xs) handed = number_more (next_number number x) xs handed

let_more : (lets_through : ℕ → Type 0) (number : ℕ) (xs : List Parcel) (handed : Parcel)
    → AreLetThrough lets_through number xs → (is_batch handed ≡ true → lets_through (number_after number xs))
    → AreLetThrough lets_through number (xs ++ handed ∷ [])
let_more lets_through number [] handed all one = (one, tt)
let_more lets_through number (x ∷ xs) handed all one =
    (all.0, let_more lets_through (next_number number x) xs handed all.1 one)

pub none_cleared : {lets_through : ℕ → Type 0} {first : List Parcel} → AreCleared lets_through first first 0
none_cleared {first = first} = record {
  more = [];
  parts = sym (append-nil first);
  through = tt;
  counted = refl;
}

pub one_cleared : {lets_through : ℕ → Type 0} {first all next : List Parcel} {number later : ℕ} (handed : Parcel)
    → AreCleared lets_through first all number → next ≡ all ++ handed ∷ []
    → (is_batch handed ≡ true → lets_through number) → later ≡ next_number number handed
    → AreCleared lets_through first next later
one_cleared {lets_through = lets_through} handed has next_is one later_is = record {
  more = has.more ++ handed ∷ [];
  parts = next_is ∙ ap (λ xs. xs ++ handed ∷ []) has.parts ∙ append_assoc _ has.more (handed ∷ []);
  through = let_more lets_through 0 has.more handed has.through (λ is. subst lets_through has.counted (one is));
  counted = later_is ∙ ap (λ n. next_number n handed) has.counted ∙ sym (number_more 0 has.more handed);
}

-- ---- parcels that are given one after the other

pub one_given : (now next first yielded : List Parcel) (handed : Parcel) → next ≡ now ++ handed ∷ []
    → now ≡ first ++ yielded → next ≡ first ++ (yielded ++ handed ∷ [])
one_given now next first yielded handed one is =
    one ∙ ap (λ ps. ps ++ handed ∷ []) is ∙ append_assoc first yielded (handed ∷ [])

pub one_counted : (first now next : ℕ) (yielded : List Parcel) (handed : Parcel) → next ≡ next_number now handed
    → now ≡ number_after first yielded → next ≡ number_after first (yielded ++ handed ∷ [])
one_counted first now next yielded handed one is =
    one ∙ ap (λ n. next_number n handed) is ∙ sym (number_more first yielded handed)

pub none_in_empty : {A : Type 0} (xs : List A) → (length xs == 0) ≡ true → xs ≡ []
none_in_empty [] is = refl
none_in_empty (x ∷ xs) is = absurd (omega (arith, eqb-true (length (x ∷ xs)) 0 is))
