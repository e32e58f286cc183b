use Rattle.std.proofs.Common.{arith}
use Rattle.tb_tables.proofs.Pairs.{has_pair-permuted, others-stay, popped-first}
use Rattle.tb_tables.proofs.Words.{nat_tests}
use Rattle.tb_tables.proofs.expiries.pop_spent.Goals as goal

pub returns-clause-stay : goal.returns-clause-stay
returns-clause-stay c = λ m p open_one has.
    let moved = c.in-Some-pop.ensures.permutation in
    let same = popped-first _ _ moved c.in-Some.ensures.lookup c.in-Some-pop.ensures.top in
    grind (arith, nat_tests, others-stay moved m p, same, open_one, has, c.is_open_at.ensures, c.if-is_open_at.false)

pub returns-clause-only : goal.returns-clause-only
returns-clause-only c = λ m p has. grind (arith, has_pair-permuted c.in-Some-pop.ensures.permutation m p, has)
