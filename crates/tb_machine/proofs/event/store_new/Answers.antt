use Rattle.std.proofs.Common.{ap, subst}
use Rattle.tb_machine.proofs.Words.{Transfer, transfer_with, MayAdd}
use Rattle.tb_machine.proofs.StoredEvents.{fits, may_add, has_debit, resolves_nothing}
use Rattle.tb_machine.proofs.event.store_new.Goals as goal

pub insert_between-requires-clause-fits : goal.insert_between-requires-clause-fits
insert_between-requires-clause-fits c =
    λ _. fits c.args.tables.now.now c.args.timestamp c.args.event.now c.requires.clock
    c.requires.ok c.requires.target.0

pub insert_between-requires-clause-may : goal.insert_between-requires-clause-may
insert_between-requires-clause-may c = λ new.
    let facts = c.args.tables.now.now in
    let event = c.args.event.now in
    let plain = c.requires.target.0 in
    subst (MayAdd facts) (ap (λ (t : Transfer). record t { timestamp = c.args.timestamp })
    (resolves_nothing (transfer_with facts event.pending_id) event plain))
    (may_add facts c.args.timestamp event c.requires.clock c.requires.ok plain new)

pub unreachable-requires : goal.unreachable-requires
unreachable-requires c =
    has_debit c.args.tables.now.now c.args.timestamp c.args.event.now c.requires.ok c.requires.target.0
    c.args.sides.debit c.in_default.is c.requires.target.1.debit
