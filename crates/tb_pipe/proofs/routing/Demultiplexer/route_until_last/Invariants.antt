use Rattle.tb_pipe.proofs.Words.{taken, SameInlet, answers_in, SameOutlets, AllGiven}
use Rattle.tb_pipe.proofs.routing.Demultiplexer.route_until_last.Given as goal

abbrev pub invariant-loop : goal.invariant-loop
invariant-loop g l = record {
  inlet : SameInlet l.fn.self.inlet l.self.inlet;
  outlets : SameOutlets l.fn.self.outlets.items l.self.outlets.items;
  made : AllGiven (answers_in (taken l.self.inlet)) l.self.outlets.items;
}
