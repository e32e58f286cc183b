-- What a look-up finds.
use Rattle.std.proofs.Common.{arith, refl, ap, ◌∙◌, ◌≡◌, ℕ, Bool, false, List, [], ◌∷◌, ◌==◌, Some, None, is_some, find}
use Rattle.tb_tables.proofs.Words.{nat_tests, list_any}

pub any-found : {X : Type 0} (test : X → Bool) (xs : List X) → list_any test xs ≡ is_some (find test xs)
any-found test [] = refl
any-found test (x ∷ xs) = grind (arith, any-found test xs)

pub find-none : {X : Type 0} (test : X → Bool) (xs : List X) → find test xs ≡ None → list_any test xs ≡ false
find-none test xs none = any-found test xs ∙ ap is_some none

-- by an id: it has that id
pub found-id : {X : Type 0} (id_of : X → ℕ) (id : ℕ) (xs : List X) (found : X)
    → find (λ x. id_of x == id) xs ≡ Some found → id_of found ≡ id
found-id id_of id [] found e = cc
found-id id_of id (x ∷ xs) found e = grind (arith, nat_tests, found-id id_of id xs found)
