-- How the sums of an account change with the facts.
use Rattle.std.proofs.Common.{refl, ap, ◌∙◌, arith, ◌≡◌, ℕ, ◌+◌, Bool, true, false, not, List, [], ◌∷◌, ◌++◌, sum_by, filter, if◌then◌else◌, ◌==◌, ◌&&◌, Some, find}
use Rattle.tb_tables.proofs.Words.{filter-append, filter_agree, nat_tests, Transfer, has_id, ids_distinct}
use Rattle.std.proofs.lemmas.List.Sums.{sum_by-append, sum_by-cons}

-- the amount of a transfer, if it passes a test
abbrev pub amount_if : (Transfer → Bool) → Transfer → ℕ
amount_if test transfer = if test transfer then transfer.amount else 0

-- the amounts of the transfers that pass a test
abbrev pub amounts : (Transfer → Bool) → List Transfer → ℕ
amounts test transfers = sum_by (λ transfer. transfer.amount) (filter test transfers)

amounts-cons : (test : Transfer → Bool) (x : Transfer) (xs : List Transfer)
    → amounts test (x ∷ xs) ≡ amount_if test x + amounts test xs
amounts-cons test x xs = by (test x)
  where
    by : (b : Bool) → sum_by (λ (t : Transfer). t.amount) (if b then x ∷ filter test xs else filter test xs)
        ≡ (if b then x.amount else 0) + amounts test xs
    by true = sum_by-cons (λ (t : Transfer). t.amount) x (filter test xs)
    by false = omega arith

pub amounts-same : (test other : Transfer → Bool) (xs : List Transfer) → ((x : Transfer) → test x ≡ other x)
    → amounts test xs ≡ amounts other xs
amounts-same test other xs same = ap (sum_by (λ (t : Transfer). t.amount)) (filter_agree test other same xs)

-- one transfer more, if the test stays the same for the others
pub amounts-push : (old new : Transfer → Bool) (xs : List Transfer) (x : Transfer)
    → ((y : Transfer) → new y ≡ old y) → amounts new (xs ++ x ∷ []) ≡ amounts old xs + amount_if new x
amounts-push old new xs x same =
    let split = ap (sum_by (λ (t : Transfer). t.amount)) (filter-append new xs (x ∷ []))
    ∙ sum_by-append (λ (t : Transfer). t.amount) (filter new xs) (filter new (x ∷ [])) in
    omega (arith, split, amounts-same new old xs same, amounts-cons new x [])

-- ---- one transfer taken out of a sum, by its id

-- the test, but for the transfer with an id
abbrev pub but_for : ℕ → (Transfer → Bool) → Transfer → Bool
but_for id test transfer = test transfer && not (transfer.id == id)

-- if no transfer has the id, none is taken out
but_for-absent : (test : Transfer → Bool) (id : ℕ) (xs : List Transfer) → has_id id xs ≡ false
    → amounts (but_for id test) xs ≡ amounts test xs
but_for-absent test id [] h = refl
but_for-absent test id (x ∷ xs) h =
    grind (arith, amounts-cons (but_for id test) x xs, amounts-cons test x xs, but_for-absent test id xs)

pub but_for-found : (test : Transfer → Bool) (id : ℕ) (xs : List Transfer) (p : Transfer) → ids_distinct xs ≡ true
    → find (λ (x : Transfer). x.id == id) xs ≡ Some p →
    amounts test xs ≡ amounts (but_for id test) xs + amount_if test p
but_for-found test id [] p distinct found = cc
but_for-found test id (x ∷ xs) p distinct found =
    let split = amounts-cons (but_for id test) x xs in
    grind (arith, nat_tests, amounts-cons test x xs, split, but_for-found test id xs p, but_for-absent test id xs)
