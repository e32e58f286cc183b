use Rattle.std.proofs.Common.{◌∙◌, sym, ap, Ok}
use Rattle.tb_tables.proofs.Words.{contents_in}
use Rattle.tb_tables.proofs.LookUps.{new-account-by-id}
use Rattle.tb_tables.proofs.UndoList.{account-made}
use Rattle.tb_tables.proofs.tables.Tables.insert_account.Goals as goal

pub returns-then-not-branch-clause-new : goal.returns-then-not-branch-clause-new
returns-then-not-branch-clause-new c =
    rw (← c.self.view_is) (sym c.if-not-branch.true ∙ c.in_ok-push_account.ensures.new
    ∙ new-account-by-id c.self.invariant.consistent.hold c.args.event.now.id)

pub returns-clause-new : goal.returns-clause-new
returns-clause-new c =
    rw (← c.self.view_is) (sym c.if-not-branch.false ∙ c.in_ok-push_account.ensures.new
    ∙ new-account-by-id c.self.invariant.consistent.hold c.args.event.now.id)

pub invariant_of-self-2 : goal.invariant_of-self-2
invariant_of-self-2 c =
    let pushed = c.in_ok-push_account.ensures.added (ap Ok c.if-not-branch.false) in
    rw (pushed, c.push_reserved.ensures.items, c.reserve.ensures.items)
    (account-made c.self.inside.changes.items (contents_in c.self.inside) c.self.invariant c.args.event.now
    c.args.timestamp c.requires (sym c.if-not-branch.false ∙ c.in_ok-push_account.ensures.new)).0

pub returns-clause-added : goal.returns-clause-added
returns-clause-added c = λ _.
    let pushed = c.in_ok-push_account.ensures.added (ap Ok c.if-not-branch.false) in
    rw (← c.self.view_is, pushed, c.push_reserved.ensures.items, c.reserve.ensures.items)
    (account-made c.self.inside.changes.items (contents_in c.self.inside) c.self.invariant c.args.event.now
    c.args.timestamp c.requires (sym c.if-not-branch.false ∙ c.in_ok-push_account.ensures.new)).1
