use Rattle.std.proofs.Common.{ap, Ok, rules}
use Rattle.tb_tables.proofs.Words.{contents_in}
use Rattle.tb_tables.proofs.UndoList.{failed-made}
use Rattle.tb_tables.proofs.tables.Tables.insert_failed.Goals as goal

pub invariant_of-self-2 : goal.invariant_of-self-2
invariant_of-self-2 c =
    let pushed = c.in_ok-push_failed.ensures.added (ap Ok c.if-not-branch.false) in
    rw (pushed, c.push_reserved.ensures.items, c.reserve.ensures.items)
    (failed-made c.self.inside.changes.items (contents_in c.self.inside) c.self.invariant c.args.id).0

pub returns-clause-added : goal.returns-clause-added
returns-clause-added c = λ _.
    let pushed = c.in_ok-push_failed.ensures.added (ap Ok c.if-not-branch.false) in
    rw (← c.self.view_is, pushed, c.push_reserved.ensures.items, c.reserve.ensures.items)
    (failed-made c.self.inside.changes.items (contents_in c.self.inside) c.self.invariant c.args.id).1

pub returns-then-not-branch-clause-new : goal.returns-then-not-branch-clause-new
returns-then-not-branch-clause-new c = search rules

pub returns-clause-new : goal.returns-clause-new
returns-clause-new c = search rules
