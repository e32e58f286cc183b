use Rattle.std.proofs.Common.{rules, add-one, zero, suc, ◌≡◌, ℕ, List, [], ◌∷◌, drop, slice_get, refl}
use Rattle.tb_machine.proofs.Words.{MatchOption, length-map}
use Rattle.tb_machine.proofs.each_account.EachAccountIterator.next.Goals as goal

-- what is at an index comes first of what is left from there on
first_left : {X : Type 0} (xs : List X) (i : ℕ)
    → MatchOption (slice_get xs i) ((drop i xs ≡ []) × (drop (suc i) xs ≡ [])) (λ x. drop i xs ≡ x ∷ drop (suc i) xs)
first_left [] zero = (refl, refl)
first_left [] (suc i) = (refl, refl)
first_left (x ∷ xs) zero = refl
first_left (x ∷ xs) (suc i) = first_left xs i

pub returns-clause-steps : goal.returns-clause-steps
returns-clause-steps c = rw (add-one) (search (rules, first_left, length-map))
