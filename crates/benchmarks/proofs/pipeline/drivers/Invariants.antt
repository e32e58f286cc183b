use Rattle.std.proofs.Common.{◌≡◌, length}
use Rattle.benchmarks.proofs.pipeline.drivers.Given as goal

abbrev pub invariant-loop-number : goal.invariant-loop-number
invariant-loop-number l = length l.drivers.items ≡ l.number
