use Rattle.std.proofs.Common.{◌≡◌, arith, sym, subst, ◌∙◌, true, false, []}
use Rattle.tb_durable.proofs.Words.{Advances, IsClean, IsReading}
use Rattle.tb_durable.proofs.StoreLemmas.{advances_same, reads_all, reads_one}
use Rattle.tb_durable.proofs.reading.read_first.Goals as goal

pub returns-clause-row : goal.returns-clause-row
returns-clause-row g c = λ is clean.
    let was : IsClean (g.S.Store.view c.rewind.new.self.store) = omega (arith, c.next.ensures.clean) in
    let found : c.in_ok-next.field-0 ≡ true = cc in
    let row = c.next.new.self.row in
    reads_one _ _ [] (c.in_ok-rewind.ensures.ok was) row
    (subst (Advances (g.S.Store.view c.rewind.new.self.store) (g.S.Store.view c.next.new.self.store) 0 row) found
    (c.in_ok-next.ensures.ok clean))

pub returns-clause-none : goal.returns-clause-none
returns-clause-none g c = λ is clean.
    let was : IsClean (g.S.Store.view c.rewind.new.self.store) = omega (arith, c.next.ensures.clean) in
    let found : c.in_ok-next.field-0 ≡ false = cc in
    let row = c.next.new.self.row in
    let next = subst (Advances (g.S.Store.view c.rewind.new.self.store) (g.S.Store.view c.next.new.self.store) 0 row) found
    (c.in_ok-next.ensures.ok clean) in
    let reading = c.in_ok-rewind.ensures.ok was in
    (subst (λ v. IsReading v []) (sym next.1) reading, (reads_all _ _ [] reading row next).1)

pub returns-clause-same : goal.returns-clause-same
returns-clause-same g c = λ clean.
    let was : IsClean (g.S.Store.view c.rewind.new.self.store) = omega (arith, c.next.ensures.clean) in
    advances_same (g.S.Store.view c.rewind.new.self.store) (g.S.Store.view c.next.new.self.store) c.next.new.self.row _
    (c.in_ok-next.ensures.ok clean) ∙ c.in_ok-rewind.ensures.same was
