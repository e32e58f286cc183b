use Rattle.std.proofs.Common.{◌≡◌, map}
use Rattle.tb_program.proofs.Words.{AreNew, lists_of, share_of}
use Rattle.tb_program.proofs.run.drivers.Given as goal

abbrev pub invariant-loop-packets : goal.invariant-loop-packets
invariant-loop-packets l = record {
  shares : map share_of l.drivers.items ≡ lists_of l.yielded;
  new : AreNew l.drivers.items;
}
