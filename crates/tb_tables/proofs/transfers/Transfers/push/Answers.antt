use Rattle.std.proofs.Common.{◌∙◌, ap, ap₂, sym, not, Ok, ◌++◌, ◌∷◌, []}
use Rattle.tb_tables.proofs.Words.{entries_of, stamped}
use Rattle.tb_tables.proofs.Columns.{pushed-entry, found-with-status}
use Rattle.tb_tables.proofs.transfers.Transfers.push.Goals as goal

pub returns-then-not-branch-clause-new : goal.returns-then-not-branch-clause-new
returns-then-not-branch-clause-new c =
    rw (← c.self.view_is) (sym c.if-not-branch.true ∙ c.in_ok-push_row.ensures.new
    ∙ ap not (sym (found-with-status c.args.event.now.id c.self.inside.rows.entries c.self.inside.statuses.items
    c.self.invariant)))

pub returns-clause-new : goal.returns-clause-new
returns-clause-new c =
    rw (← c.self.view_is) (sym c.if-not-branch.false ∙ c.in_ok-push_row.ensures.new
    ∙ ap not (sym (found-with-status c.args.event.now.id c.self.inside.rows.entries c.self.inside.statuses.items
    c.self.invariant)))

pub returns-clause-added : goal.returns-clause-added
returns-clause-added c = λ done.
    let t = stamped c.args.timestamp c.args.event.now in
    let status = c.first.result in
    let pushed = c.in_ok-push_row.ensures.added (ap Ok c.if-not-branch.false) in
    let statuses = c.push_reserved.ensures.items ∙ ap (λ ss. ss ++ status ∷ []) c.in_ok-reserve.ensures.items in
    ap₂ entries_of pushed.2 statuses
    ∙ pushed-entry c.self.inside.rows.entries c.self.inside.statuses.items (t.id, pushed.0) status c.self.invariant
    ∙ (λ i. c.self.view_is i ++ (t.id, record { transfer = pushed.1 i; status = c.first.ensures i }) ∷ [])
