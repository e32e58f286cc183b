use Rattle.std.proofs.Common.{arith, ap}
use Rattle.tb_tables.proofs.Pairs.{in-kept, none-earlier, others-stay, popped-first}
use Rattle.tb_tables.proofs.Words.{Expiry}
use Rattle.tb_tables.proofs.expiries.Expiries.take_due.Goals as goal

pub returns-then-moment-clock-clause-later : goal.returns-then-moment-clock-clause-later
returns-then-moment-clock-clause-later c = λ m p has.
    let there = in-kept c.args.self.now c.requires m p has in
    let low = none-earlier c.in_ok-moment.field-0.now _ (c.in_ok-moment.ensures.greatest c.self.invariant.ordered) m p
    (rw (← c.self.view_is) at there) in
    omega (arith, low, c.if-moment-clock.true)

pub returns-clause-due : goal.returns-clause-due
returns-clause-due c =
    let popped = c.in_ok-index.field-0 in
    let moved = c.in_ok-index.ensures.permutation in
    let same = popped-first _ _ moved c.in_ok-moment.ensures.lookup c.in_ok-index.ensures.top in (
      popped.0.0,
      omega (arith, ap (λ (pair : Expiry). pair.0.0) same, c.if-moment-clock.false),
      λ m p apart has.
          let there = in-kept c.args.self.now c.requires m p has in
          grind (arith, others-stay moved m p apart (rw (← c.self.view_is) at there)),
    )
