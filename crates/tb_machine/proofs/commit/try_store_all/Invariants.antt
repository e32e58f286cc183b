use Rattle.std.proofs.Common.{◌≡◌, ◌≤◌, drop, map}
use Rattle.tb_machine.proofs.Words.{Extends, clock_max, try_events}
use Rattle.tb_machine.proofs.commit.try_store_all.Given as goal

abbrev pub invariant-loop-index : goal.invariant-loop-index
invariant-loop-index g l = record {
  clock : l.clock ≤ clock_max;
  extends : Extends l.fn.tables l.tables;
  attempt : try_events g.E.CreateEvent.operation 0 l.fn.clock l.fn.tables.now (map g.E.CreateEvent.event_of l.chunks)
      ≡ try_events g.E.CreateEvent.operation l.index l.clock l.tables.now (map g.E.CreateEvent.event_of (drop l.index l.chunks));
}
