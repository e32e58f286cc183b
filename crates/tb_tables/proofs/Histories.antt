-- The history after a change, and after one is taken back.
use Rattle.std.proofs.Common.{refl, ap, ◌∙◌, arith, ◌≡◌, ◌-◌, List, [], ◌∷◌, ◌++◌, length, take, length-append, suc}
use Rattle.tb_tables.proofs.Words.{take-append_seam, AllByRecursion, Facts, with_change, without_last, before, oldest, past_of, history_of, Change}

pub without_last-push : {X : Type 0} (xs : List X) (x : X) → without_last (xs ++ x ∷ []) ≡ xs
without_last-push xs x =
    let e : length (xs ++ x ∷ []) - 1 ≡ length xs = omega (arith, length-append xs (x ∷ [])) in
    ap (λ n. take n (xs ++ x ∷ [])) e ∙ take-append_seam xs (x ∷ [])

pub oldest-push : (changes : List Change) (change : Change) (now : Facts)
    → oldest (changes ++ change ∷ []) now ≡ oldest changes (before change now)
oldest-push [] change now = refl
oldest-push (first ∷ changes) change now = ap (before first) (oldest-push changes change now)

past_of-push : (changes : List Change) (change : Change) (now : Facts)
    → past_of (changes ++ change ∷ []) now ≡ past_of changes (before change now) ++ before change now ∷ []
past_of-push [] change now = refl
past_of-push (first ∷ changes) change now = cc (oldest-push changes change now, past_of-push changes change now)

pub length-past_of : (changes : List Change) (now : Facts) → length (past_of changes now) ≡ length changes
length-past_of [] now = refl
length-past_of (first ∷ changes) now = ap suc (length-past_of changes now)

pub no-changes : (changes : List Change) (now : Facts) → past_of changes now ≡ [] → changes ≡ []
no-changes [] now none = refl
no-changes (change ∷ changes) now none = cc

-- one entry more is one change more
pub history_of-push : (changes : List Change) (change : Change) {old new : Facts} → before change new ≡ old
    → history_of (changes ++ change ∷ []) new ≡ with_change (history_of changes old) new
history_of-push changes change {new = new} is =
    ap (λ past. record { now = new; past = past })
    (past_of-push changes change new ∙ ap (λ facts. past_of changes facts ++ facts ∷ []) is)

-- ---- what is true of each entry, with one more

pub all_push : {X : Type 0} (P : X → Type 0) (xs : List X) (x : X) → AllByRecursion P xs → P x
    → AllByRecursion P (xs ++ x ∷ [])
all_push P [] x all p = (p, tt)
all_push P (y ∷ xs) x all p = (all.0, all_push P xs x all.1 p)
