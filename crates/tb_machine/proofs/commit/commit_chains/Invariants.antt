use Rattle.std.proofs.Common.{◌-◌, ◌≤◌, length, drop, map}
use Rattle.tb_machine.proofs.Words.{clock_max, events_results, Continues}
use Rattle.tb_machine.proofs.FirstChain.{IsLeft}
use Rattle.tb_machine.proofs.commit.commit_chains.Given as goal

abbrev pub invariant-loop-start : goal.invariant-loop-start
invariant-loop-start g l = record {
  within : l.start.index ≤ length l.chunks;
  clock : l.start.clock ≤ clock_max;
  continues : Continues l.fn.tables l.tables l.fn.out l.out;
  left : let operation = g.E.CreateEvent.operation in let events = map g.E.CreateEvent.event_of l.chunks in
      IsLeft operation (events_results operation l.fn.clock l.fn.tables.now events) l.start.clock l.tables.now
      l.start.index (map g.E.CreateEvent.event_of (drop l.start.index l.chunks)) l.fn.out l.out;
}

abbrev pub decreases-loop-start : goal.decreases-loop-start
decreases-loop-start g l = length l.chunks - l.start.index
