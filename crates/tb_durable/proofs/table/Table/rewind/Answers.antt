use Rattle.std.proofs.Common.{◌≡◌, arith, rules, sym, ◌∙◌}
use Rattle.tb_durable.proofs.Words.{Table, IsClean}
use Rattle.tb_durable.proofs.StoreLemmas.{reads_none, same_committed, settled_again}
use Rattle.tb_durable.proofs.table.Table.rewind.Goals as goal

pub returns-clause-ok : goal.returns-clause-ok
returns-clause-ok g c = λ clean.
    let was : IsClean (g.S.Store.view c.rollback.new.self) = omega (arith, c.seek.ensures.quiet.clean) in
    let shape : (g.S.Store.view c.rollback.new.self).shape 0 ≡ Table = search rules in
    let back = settled_again (g.S.Store.view c.args.self.now.store) (g.S.Store.view c.rollback.new.self)
    (g.met.S.Store.broken_if_shut c.rollback.new.self) c.rollback.ensures.undone was
    (sym (c.is_broken.ensures was) ∙ c.if-is_broken.false) shape in
    reads_none _ _ c.clear.new.self c.clear.ensures back.0 (c.in_ok-seek.ensures.ok clean)

pub returns-clause-same : goal.returns-clause-same
returns-clause-same g c = λ clean.
    let was : IsClean (g.S.Store.view c.rollback.new.self) = omega (arith, c.seek.ensures.quiet.clean) in
    let shape : (g.S.Store.view c.rollback.new.self).shape 0 ≡ Table = search rules in
    let back = settled_again (g.S.Store.view c.args.self.now.store) (g.S.Store.view c.rollback.new.self)
    (g.met.S.Store.broken_if_shut c.rollback.new.self) c.rollback.ensures.undone was
    (sym (c.is_broken.ensures was) ∙ c.if-is_broken.false) shape in
    same_committed _ _ _ (c.in_ok-seek.ensures.ok clean) ∙ back.1
