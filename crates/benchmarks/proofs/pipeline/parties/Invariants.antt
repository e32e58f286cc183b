use Rattle.std.proofs.Common.{◌≡◌, length}
use Rattle.benchmarks.proofs.pipeline.parties.Given as goal

abbrev pub invariant-loop-number : goal.invariant-loop-number
invariant-loop-number g l = length l.parties.items ≡ l.number
