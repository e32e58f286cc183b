use Rattle.std.proofs.Common.{◌∙◌, sym, append-nil, map, arith}
use Rattle.tb_machine.proofs.Words.{common_steps, length-map}
use Rattle.tb_machine.proofs.Faults.{fault-below, closed_by}
use Rattle.tb_machine.proofs.Failures.{failures_from-none}
use Rattle.tb_machine.proofs.commit.commit_closed_chain.Goals as goal

pub report_failed-requires-clause-below : goal.report_failed-requires-clause-below
report_failed-requires-clause-below g c =
    rw c.with_event-fault.ensures
    (fault-below g.E.CreateEvent.operation g.E.CreateEvent.event_of c.args.start.clock c.args.tables.now.now _
    c.args.chain.now _ c.in_ok-fault.ensures.attempt)

pub returns-else-is_some-clause-committed : goal.returns-else-is_some-clause-committed
returns-else-is_some-clause-committed g c =
    rw (
      closed_by g.E.CreateEvent.operation _ c.args.start.clock c.args.tables.now.now _
          (map g.E.CreateEvent.event_of c.args.chain.now) _ c.in_ok-fault.ensures.attempt,
      sym c.is_some.ensures ∙ c.if-is_some.false,
    )
    (record {
      facts = search (arith, common_steps);
      failures = rw failures_from-none (sym (append-nil c.args.out.now.items));
    })

pub returns-in_ok-undo_chain-clause-committed : goal.returns-in_ok-undo_chain-clause-committed
returns-in_ok-undo_chain-clause-committed g c =
    rw (
      closed_by g.E.CreateEvent.operation _ c.args.start.clock c.args.tables.now.now _
          (map g.E.CreateEvent.event_of c.args.chain.now) _ c.in_ok-fault.ensures.attempt,
      sym c.is_some.ensures ∙ c.if-is_some.true,
    )
    (record { facts = grind (arith, common_steps); failures = grind (arith, common_steps, length-map) })
