use Rattle.std.proofs.Common.{sym, subst, rules}
use Rattle.tb_machine.proofs.Words.{MayResolve}
use Rattle.tb_machine.proofs.StoredEvents.{may_resolve}
use Rattle.tb_machine.proofs.event.try_store_resolving.Goals as goal

pub store_resolved-requires-clause-may : goal.store_resolved-requires-clause-may
store_resolved-requires-clause-may c =
    subst (MayResolve c.args.tables.now.now) (sym c.in-Ok.ensures.stored)
    (may_resolve c.args.tables.now.now c.args.timestamp c.args.event.now c.in-Ok.ensures.ok c.requires.0)

pub returns-in-Err-clause-same : goal.returns-in-Err-clause-same
returns-in-Err-clause-same c = search rules

pub returns-in_err-store_resolved-clause-same : goal.returns-in_err-store_resolved-clause-same
returns-in_err-store_resolved-clause-same c = search rules

pub returns-then-branch-clause-same : goal.returns-then-branch-clause-same
returns-then-branch-clause-same c = search rules

pub returns-clause-same : goal.returns-clause-same
returns-clause-same c = search rules
