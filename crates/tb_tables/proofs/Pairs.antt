-- Pairs of the expiries: which are in a heap, which are those of a transfer, and which there have to be.
use Rattle.std.proofs.Common.{find, refl, sym, ap, ◌∙◌, arith, ◌≡◌, ℕ, ◌+◌, ◌<◌, true, false, true≢false, take, get_or, slice_index_or, List, [], ◌∷◌, ◌++◌, length, slice_get, zero, suc, if◌then◌else◌, ◌==◌, ◌||◌, Option, Some, None, ◌≤◌}
use Rattle.tb_tables.proofs.Words.{eqb-true, take-suc, its_pair, nat_tests, Transfer, Facts, add_transfer, is_reserving, has_id, ids_distinct, is_open_pair, list_any-append, Expiry, by_moment, pair_of, has_pair, is_in_expiries, ExpiriesState, same_pair, expires_at, with_its_pair}
use Rattle.std.proofs.lemmas.List.Sorted.{list_any-IsPermutation, length_permutation}
use Rattle.std.specs.BinaryHeap.{IsUpperBound}
use Rattle.std.specs.List.Sorted.{IsPermutation}

-- ---- in a heap

module _ (pairs : List Expiry) (moment index : ℕ) (m p : ℕ) where
  pub has_pair-push : has_pair (pairs ++ pair_of moment index ∷ []) m p ≡ (same_pair moment index m p || has_pair pairs m p)
  has_pair-push =
      grind (arith, list_any-append (λ (pair : Expiry). same_pair pair.0.0 pair.0.1 m p) pairs (pair_of moment index ∷ []))

-- if all are kept
pub in-kept : (expiries : ExpiriesState) → expiries.fresh ≡ [] → (m p : ℕ) → is_in_expiries expiries m p ≡ true
    → has_pair expiries.kept m p ≡ true
in-kept expiries none m p has = grind (arith, none, has)

-- pairs in another order
pub has_pair-permuted : {old new : List Expiry} → IsPermutation old new → (m p : ℕ) → has_pair old m p ≡ has_pair new m p
has_pair-permuted {old} {new} moved m p =
    list_any-IsPermutation (λ (pair : Expiry). same_pair pair.0.0 pair.0.1 m p) old new moved

-- the first of a heap is the one that is popped
pub popped-first : (pairs rest : List Expiry) {first popped : Expiry} → IsPermutation pairs (popped ∷ rest)
    → first ≡ slice_index_or pairs 0 first → popped ≡ slice_index_or pairs 0 popped → popped ≡ first
popped-first [] rest {popped = popped} moved is is' =
    let none : ⊥ = omega (arith, length_permutation [] (popped ∷ rest) moved) in absurd none
popped-first (pair ∷ pairs) rest moved is is' = is' ∙ sym is

-- and no other one goes
pub others-stay : {pairs rest : List Expiry} {popped : Expiry} → IsPermutation pairs (popped ∷ rest) → (m p : ℕ)
    → same_pair popped.0.0 popped.0.1 m p ≡ false → has_pair pairs m p ≡ true → has_pair rest m p ≡ true
others-stay moved m p apart has = grind (arith, has_pair-permuted moved m p, apart, has)

-- one more of the pairs that are gone through
pub taken-more : (pairs : List Expiry) (i : ℕ) (none : Expiry) → i < length pairs → (m p : ℕ)
    → has_pair (take (i + 1) pairs) m p
    ≡ (same_pair (get_or pairs i none).0.0 (get_or pairs i none).0.1 m p || has_pair (take i pairs) m p)
taken-more pairs i none within m p =
    let pair = get_or pairs i none in
    let one : i + 1 ≡ suc i = omega arith in
    ap (λ n. has_pair (take n pairs) m p) one ∙ ap (λ taken. has_pair taken m p) (take-suc pairs i none within)
    ∙ has_pair-push (take i pairs) pair.0.0 pair.0.1 m p

-- none is earlier than one that isn't less than any
pub none-earlier : (first : Expiry) (pairs : List Expiry) → IsUpperBound by_moment first pairs → (m p : ℕ)
    → has_pair pairs m p ≡ true → first.0.0 ≤ m
none-earlier first [] bound m p has = absurd (true≢false (sym has))
none-earlier first (pair ∷ pairs) bound m p has =
    grind (arith, nat_tests, bound.0, has, none-earlier first pairs bound.1 m p)

-- ---- at an index

pub slice_get-push : {X : Type 0} (xs : List X) (x : X) (index : ℕ)
    → slice_get (xs ++ x ∷ []) index ≡ (if index == length xs then Some x else slice_get xs index)
slice_get-push [] x zero = refl
slice_get-push [] x (suc index) = grind (arith, nat_tests)
slice_get-push (y ∷ xs) x zero = grind (arith, nat_tests)
slice_get-push (y ∷ xs) x (suc index) = grind (arith, nat_tests, slice_get-push xs x index)

-- an id has one index
pub has_id-at : (id : ℕ) (xs : List Transfer) (index : ℕ) (x : Transfer) → slice_get xs index ≡ Some x
    → (x.id == id) ≡ true → has_id id xs ≡ true
has_id-at id [] index x at is = cc
has_id-at id (y ∷ xs) zero x at is = grind arith
has_id-at id (y ∷ xs) (suc index) x at is = grind (arith, has_id-at id xs index x at is)

-- if its own id finds it
pub find-at : (xs : List Transfer) (index : ℕ) (x : Transfer) → ids_distinct xs ≡ true → slice_get xs index ≡ Some x
    → find (λ (t : Transfer). t.id == x.id) xs ≡ Some x
find-at [] index x distinct at = cc
find-at (y ∷ xs) zero x distinct at = grind (arith, nat_tests)
find-at (y ∷ xs) (suc index) x distinct at = grind (arith, nat_tests, has_id-at y.id xs index x at, find-at xs index x)

pub one-index : (xs : List Transfer) (i j : ℕ) (x y : Transfer) → ids_distinct xs ≡ true → slice_get xs i ≡ Some x
    → slice_get xs j ≡ Some y → (x.id == y.id) ≡ (i == j)
one-index [] i j x y distinct at at' = cc
one-index (z ∷ xs) zero zero x y distinct at at' = grind (arith, nat_tests)
one-index (z ∷ xs) zero (suc j) x y distinct at at' = grind (arith, nat_tests, has_id-at z.id xs j y at')
one-index (z ∷ xs) (suc i) zero x y distinct at at' = grind (arith, nat_tests, has_id-at z.id xs i x at)
one-index (z ∷ xs) (suc i) (suc j) x y distinct at at' = grind (arith, nat_tests, one-index xs i j x y)

-- and so it is of one transfer
pub one-transfer : (xs : List Transfer) (i j : ℕ) {x y : Transfer} → ids_distinct xs ≡ true
    → slice_get xs i ≡ Some x → slice_get xs j ≡ Some y → (x.id == y.id) ≡ true → x ≡ y
one-transfer xs i j {x} {y} distinct at at' same =
    cc (at, at', ap (slice_get xs) (eqb-true i j (sym (one-index xs i j x y distinct at at') ∙ same)))

module _ (facts : Facts) (t : Transfer) where
  pub put-pair : (expiries : ExpiriesState) {next : ExpiriesState} {index : ℕ} → next ≡ with_its_pair expiries t index
      → index ≡ length facts.transfers → (m p : ℕ)
      → is_in_expiries next m p ≡ (its_pair facts t m p || is_in_expiries expiries m p)
  put-pair expiries is at m p =
      grind (arith, is, at, has_pair-push expiries.fresh (expires_at t) (length facts.transfers) m p)

  -- if none reserves its amount that didn't before
  pub is_open_pair-push : ((y : Transfer) → is_reserving (add_transfer facts t) y ≡ true → is_reserving facts y ≡ true)
      → (moment index : ℕ) → is_open_pair (add_transfer facts t) moment index ≡ true
      → (its_pair facts t moment index || is_open_pair facts moment index) ≡ true
  is_open_pair-push less moment index has = by (slice_get facts.transfers index) refl
    where
      by : (o : Option Transfer) → slice_get facts.transfers index ≡ o
          → (its_pair facts t moment index || is_open_pair facts moment index) ≡ true
      by None at = grind (arith, nat_tests, slice_get-push facts.transfers t index, at, has)
      by (Some y) at = grind (arith, nat_tests, slice_get-push facts.transfers t index, at, has, less y)
