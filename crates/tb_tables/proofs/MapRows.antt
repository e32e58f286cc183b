-- Rows of a map under their keys, in order.
use Rattle.std.proofs.Common.{refl, sym, ap, subst, ◌∙◌, arith, ◌≡◌, ℕ, false, List, [], ◌∷◌, ◌++◌, map, nat_eq, slice_get, get_or, position, zero, suc, Some, find, ◌==◌, option_map}
use Rattle.tb_tables.proofs.Words.{slice_get-get_or, slice_get-map, length-map, Found-position, insert_entry, AllByRecursion, IsDistinct, position_or_len, keys_of, lookup, lookup_key, nat_tests, set_value_at}
use Rattle.std.proofs.lemmas.Map.Keys.{IsDistinct-head, IsDistinct-tail}
use Rattle.tb_tables.proofs.Laws.{==_swap}

-- each under its key, with what is made of it
abbrev pub rows : {X V : Type 0} → (X → ℕ) → (X → V) → List X → List (ℕ × V)
rows key made xs = map (λ x. (key x, made x)) xs

pub map-same : {X Y : Type 0} (f g : X → Y) (xs : List X) → ((x : X) → f x ≡ g x) → map f xs ≡ map g xs
map-same f g [] same = refl
map-same f g (x ∷ xs) same = cc (same x, map-same f g xs same)

-- what a row at an index was made of
pub made-at : {X Y : Type 0} (f : X → Y) (xs : List X) (index : ℕ) (y : Y) → slice_get (map f xs) index ≡ Some y
    → (x : X) × (slice_get xs index ≡ Some x) × (f x ≡ y)
made-at f [] index y at = cc
made-at f (x ∷ xs) zero y at = (x, refl, cc)
made-at f (x ∷ xs) (suc index) y at = made-at f xs index y at

-- and the row at an index
pub row-indexed_at : {X V : Type 0} (key : X → ℕ) (made : X → V) (xs : List X) {es : List (ℕ × V)}
    → es ≡ rows key made xs → (index : ℕ) {x : X} → slice_get xs index ≡ Some x
    → slice_get es index ≡ Some (key x, made x)
row-indexed_at key made xs is index at =
    ap (λ es. slice_get es index) is ∙ slice_get-map (λ x. (key x, made x)) xs index
    ∙ ap (option_map (λ x. (key x, made x))) at

keys-rows : {X V : Type 0} (key : X → ℕ) (made : X → V) (xs : List X) → keys_of (rows key made xs) ≡ map key xs
keys-rows key made [] = refl
keys-rows key made (x ∷ xs) = ap (λ ks. key x ∷ ks) (keys-rows key made xs)

-- or under the key at an index
pub key-indexed_at : {X V : Type 0} (key : X → ℕ) (made : X → V) (xs : List X) {es : List (ℕ × V)}
    → es ≡ rows key made xs → (index : ℕ) {id : ℕ} → slice_get (keys_of es) index ≡ Some id
    → (x : X) × (slice_get xs index ≡ Some x) × (key x ≡ id)
key-indexed_at key made xs is index {id} at =
    made-at key xs index id (sym (ap (λ ks. slice_get ks index) (ap keys_of is ∙ keys-rows key made xs)) ∙ at)

-- the index of the first row with a key, and what a look-up by key finds: the first of that key
pub first-of-key : {X V : Type 0} (key : X → ℕ) (made : X → V) (id : ℕ) (xs : List X)
    → position_or_len (nat_eq id) (keys_of (rows key made xs)) ≡ position_or_len (λ x. key x == id) xs
first-of-key key made id [] = refl
first-of-key key made id (x ∷ xs) = grind (arith, ==_swap id (key x), first-of-key key made id xs)

pub lookup-rows : {X V : Type 0} (key : X → ℕ) (made : X → V) (id : ℕ) (xs : List X)
    → lookup (nat_eq id) (rows key made xs) ≡ option_map made (find (λ x. key x == id) xs)
lookup-rows key made id [] = refl
lookup-rows key made id (x ∷ xs) = grind (arith, ==_swap id (key x), lookup-rows key made id xs)

-- ---- a write at an index, with the others as they were, those after it too

module _ {X V : Type 0} (key : X → ℕ) (old new : X → V) (more : List (ℕ × V)) where
  -- a key further back differs from the first
  key-apart : (k : ℕ) (xs : List X) (index : ℕ) (x : X)
      → AllByRecursion (λ y. nat_eq k y ≡ false) (keys_of (rows key old xs ++ more))
      → slice_get xs index ≡ Some x → (k == key x) ≡ false
  key-apart k [] index x all at = cc
  key-apart k (y ∷ xs) zero x all at = let same : y ≡ x = cc in ap (λ z. k == key z) (sym same) ∙ all.0
  key-apart k (y ∷ xs) (suc index) x all at = key-apart k xs index x all.1 at

  others-same : (k : ℕ) (xs : List X) → AllByRecursion (λ y. nat_eq k y ≡ false) (keys_of (rows key old xs ++ more))
      → ((y : X) → (key y == k) ≡ false → new y ≡ old y) → rows key old xs ++ more ≡ rows key new xs ++ more
  others-same k [] all same = refl
  others-same k (x ∷ xs) all same = cc (same x (==_swap (key x) k ∙ all.0), others-same k xs all.1 same)

  row-set : (xs : List X) (index : ℕ) (x : X) → slice_get xs index ≡ Some x
      → IsDistinct nat_eq (keys_of (rows key old xs ++ more))
      → ((y : X) → (key y == key x) ≡ false → new y ≡ old y) →
      set_value_at (rows key old xs ++ more) index (new x) ≡ rows key new xs ++ more
  row-set [] index x at apart same = cc
  row-set (y ∷ xs) zero x at apart same =
      let first : y ≡ x = cc in
      let all = subst (λ z. AllByRecursion (λ k. nat_eq (key z) k ≡ false) (keys_of (rows key old xs ++ more)))
      first (IsDistinct-head nat_eq (key y) (keys_of (rows key old xs ++ more)) apart) in
      cc (first, others-same (key x) xs all same)
  row-set (y ∷ xs) (suc index) x at apart same =
      let differs = key-apart (key y) xs index x (IsDistinct-head nat_eq (key y)
      (keys_of (rows key old xs ++ more)) apart) at in
      let others = IsDistinct-tail nat_eq (key y) (keys_of (rows key old xs ++ more)) apart in
      cc (same y differs, row-set xs index x at others same)

  -- as entries of a map, and with what is written given
  pub rows-set : (xs : List X) (index : ℕ) {es : List (ℕ × V)} {x : X} {v : V} → slice_get xs index ≡ Some x
      → v ≡ new x → ((y : X) → (key y == key x) ≡ false → new y ≡ old y) → es ≡ rows key old xs ++ more
      → IsDistinct nat_eq (keys_of es) → set_value_at es index v ≡ rows key new xs ++ more
  rows-set xs index {es} {x} at value same is apart =
      rw (is, value) (row-set xs index x at (rw is at apart) same)

-- ---- the index of a key

key-found : {X : Type 0} (id : ℕ) (es : List (ℕ × X)) (k : ℕ) → lookup_key (nat_eq id) es ≡ Some k → k ≡ id
key-found id [] k e = cc
key-found id (x ∷ es) k e = grind (arith, nat_tests, key-found id es k)

pub key-of-position : {X : Type 0} (id : ℕ) (es : List (ℕ × X)) (i : ℕ) → position (nat_eq id) (keys_of es) ≡ Some i
    → slice_get (keys_of es) i ≡ Some id
key-of-position id es i p =
    let f = Found-position (nat_eq id) es i p in
    let at = slice_get-get_or (keys_of es) i 0 (omega (arith, f.within, length-map es (λ e. e.0))) in
    at ∙ ap Some (key-found id es (get_or (keys_of es) i 0) (f.key ∙ at))

-- an entry put in as it is
pub kept-entry : {V : Type 0} (es : List (ℕ × V)) (id : ℕ) (value : V) → lookup (nat_eq id) es ≡ Some value
    → insert_entry nat_eq es id value ≡ es
kept-entry [] id value found = cc
kept-entry (e ∷ es) id value found = grind (arith, kept-entry es id value)
