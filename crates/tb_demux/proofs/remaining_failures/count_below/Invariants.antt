use Rattle.std.proofs.Common.{◌≡◌, ◌+◌, drop}
use Rattle.tb_demux.specs.inside.Leading.{count_below}
use Rattle.tb_demux.proofs.remaining_failures.count_below.Given as goal

abbrev pub invariant-loop-place : goal.invariant-loop-place
invariant-loop-place l = count_below l.end l.failures ≡ l.place + count_below l.end (drop l.place l.failures)
