use Rattle.std.proofs.Common.{append_assoc, map, arith}
use Rattle.tb_machine.proofs.Words.{length-map, common_steps}
use Rattle.tb_machine.proofs.Faults.{fault-below, open_failed}
use Rattle.tb_machine.proofs.Failures.{failures_from-open}
use Rattle.tb_machine.proofs.commit.commit_open_chain.Goals as goal

pub report_failed-requires-clause-below : goal.report_failed-requires-clause-below
report_failed-requires-clause-below g c =
    rw c.with_event-fault.ensures
    (fault-below g.E.CreateEvent.operation g.E.CreateEvent.event_of c.args.start.clock c.args.tables.now.now _
    c.args.front.now _ c.in_ok-try_store_all.ensures.attempt)

pub returns-clause-committed : goal.returns-clause-committed
returns-clause-committed g c =
    let attempt = c.in_ok-try_store_all.ensures.attempt in
    let below = fault-below g.E.CreateEvent.operation g.E.CreateEvent.event_of c.args.start.clock
    c.args.tables.now.now _ c.args.front.now _ attempt in
    rw (open_failed g.E.CreateEvent.operation c.args.start.clock c.args.tables.now.now _
    (map g.E.CreateEvent.event_of c.args.front.now) _ attempt)
    (record {
      facts = grind (arith, common_steps);
      failures = rw (
        length-map c.args.front.now g.E.CreateEvent.event_of,
        failures_from-open c.args.start.index _ _ below,
        c.push_reserved.ensures.items,
        c.report_failed.ensures.items,
        c.with_event-fault.ensures,
      ) (simp append_assoc);
    })
