use Rattle.std.proofs.Common.{length}
use Rattle.tb_pipe.proofs.Words.{SameOutlets, AllLeft}
use Rattle.tb_pipe.proofs.routing.route_all.Given as goal

abbrev pub invariant-loop-reply : goal.invariant-loop-reply
invariant-loop-reply g l = record {
  same : SameOutlets l.initial.outlets.items l.outlets.items;
  left : AllLeft l.initial.cutter l.initial.outlets.items l.cutter l.outlets.items;
}

abbrev pub decreases-loop-reply : goal.decreases-loop-reply
decreases-loop-reply g l = length l.cutter
