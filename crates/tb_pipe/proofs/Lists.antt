-- Lists with one marked value.
use Rattle.std.proofs.Common.{refl, sym, ap, ◌∙◌, ◌≡◌, ◌⊎◌, inl, inr, ⊎_elim, Bool, true, false, true≢false, List, [], ◌∷◌, ◌++◌, append-nil}
use Rattle.tb_pipe.proofs.Words.{◌||◌, if◌then◌else◌}
use Rattle.std.specs.List.{list_any, AllByRecursion}
use Rattle.std.proofs.lemmas.List.Folds.{list_any-append}

pub either_same : {X A : Type 0} (view : A → X) (test : Bool) (x y : A) (value : X) → view x ≡ value
    → view y ≡ value → view (if test then x else y) ≡ value
either_same view true x y value is other = is
either_same view false x y value is other = other

pub none_more : {A : Type 0} (mark : A → Bool) (xs ys : List A) → list_any mark xs ≡ false
    → list_any mark ys ≡ false → list_any mark (xs ++ ys) ≡ false
none_more mark xs ys none others = list_any-append mark xs ys ∙ ap (λ found. found || list_any mark ys) none ∙ others

or_true : (b : Bool) → (b || true) ≡ true
or_true true = refl
or_true false = refl

pub any_more : {A : Type 0} (mark : A → Bool) (xs : List A) (x : A) → mark x ≡ true
    → list_any mark (xs ++ x ∷ []) ≡ true
any_more mark xs x is =
    list_any-append mark xs (x ∷ []) ∙ ap (λ found. list_any mark xs || (found || false)) is
    ∙ or_true (list_any mark xs)

pub all_more : {A : Type 0} (P : A → Type 0) (xs ys : List A) → AllByRecursion P xs → AllByRecursion P ys
    → AllByRecursion P (xs ++ ys)
all_more P [] ys all others = others
all_more P (x ∷ xs) ys all others = (all.0, all_more P xs ys all.1 others)

pub all_first : {A : Type 0} (P : A → Type 0) (xs ys : List A) → AllByRecursion P (xs ++ ys) → AllByRecursion P xs
all_first P [] ys all = tt
all_first P (x ∷ xs) ys all = (all.0, all_first P xs ys all.1)

-- ---- after the last value, the only marked one, nothing follows

nothing_left : {A : Type 0} (xs ys : List A) → xs ++ ys ≡ [] → ys ≡ []
nothing_left [] ys none = none
nothing_left (x ∷ xs) ys none = cc

or_cases : (a b : Bool) → (a || b) ≡ true → (a ≡ true) ⊎ (b ≡ true)
or_cases true b is = inl refl
or_cases false b is = inr is

or_none : (a b : Bool) → (a || b) ≡ false → (a ≡ false) × (b ≡ false)
or_none true b is = absurd (true≢false is)
or_none false b is = (refl, is)

no_more : {A : Type 0} (mark : A → Bool) (before : List A) (last : A) (xs ys : List A)
    → list_any mark before ≡ false → xs ++ ys ≡ before ++ last ∷ [] → list_any mark xs ≡ true → ys ≡ []
no_more mark before last [] ys clear parts found = absurd (true≢false (sym found))
no_more mark [] last (x ∷ xs) ys clear parts found = nothing_left xs ys cc
no_more mark (a ∷ before) last (x ∷ xs) ys clear parts found =
    let none = or_none (mark a) (list_any mark before) clear in
    let first : x ≡ a = cc in
    let rest : xs ++ ys ≡ before ++ last ∷ [] = cc in
    ⊎_elim (λ (here : mark x ≡ true). absurd (true≢false (sym here ∙ ap mark first ∙ none.0)))
    (λ later. no_more mark before last xs ys none.1 rest later) (or_cases (mark x) (list_any mark xs) found)

-- whoever took the marked value took all
pub all_taken : {A : Type 0} (mark : A → Bool) (before : List A) (last : A) (xs ys : List A)
    → list_any mark before ≡ false → xs ++ ys ≡ before ++ last ∷ [] → list_any mark xs ≡ true
    → xs ≡ before ++ last ∷ []
all_taken mark before last xs ys clear parts found =
    sym (append-nil xs) ∙ ap (λ rest. xs ++ rest) (sym (no_more mark before last xs ys clear parts found)) ∙ parts
