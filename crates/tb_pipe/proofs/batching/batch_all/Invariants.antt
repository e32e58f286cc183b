use Rattle.std.proofs.Common.{◌≡◌, []}
use Rattle.tb_pipe.proofs.Words.{given, SameOutlet, IsBatched}
use Rattle.tb_pipe.proofs.Batches.{IsSameIntake}
use Rattle.tb_pipe.proofs.batching.batch_all.Given as goal

abbrev pub invariant-loop : goal.invariant-loop
invariant-loop g l = record {
  ring : SameOutlet l.initial.ring.outlet l.ring.outlet;
  intake : IsSameIntake l.initial.intake l.intake;
  none : l.parcels.items ≡ [];
  batched : IsBatched l.intake l.front (given l.ring.outlet);
}
