use Rattle.std.proofs.Common.{◌≡◌, ◌++◌}
use Rattle.tb_pipe.proofs.Words.{given, SameOutlet, number_after}
use Rattle.tb_pipe.proofs.batching.BatchRing.give_all.Given as goal

abbrev pub invariant-loop-parcel : goal.invariant-loop-parcel
invariant-loop-parcel g l = record {
  ring : SameOutlet l.initial.self.outlet l.self.outlet;
  given : given l.self.outlet ≡ given l.initial.self.outlet ++ l.yielded;
  counted : l.self.batches ≡ number_after l.initial.self.batches l.yielded;
}
