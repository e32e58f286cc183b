use Rattle.std.proofs.Common.{◌≡◌, ◌*◌, ◌++◌, take, drop, length}
use Rattle.kip.proofs.Words.{flat_map, failure_bytes}
use Rattle.kip.proofs.reading.put_failures.Given as goal

abbrev pub invariant-loop-failure : goal.invariant-loop-failure
invariant-loop-failure l =
    let written = flat_map failure_bytes (take l.failure-index l.fn.failures) in
    (l.offset ≡ 8 * l.failure-index)
    × (length written ≡ l.offset)
    × (l.out ≡ written ++ drop l.offset l.fn.out)
    × (length l.out ≡ length l.fn.out)
