use Rattle.std.proofs.Common.{◌≡◌, length}
use Rattle.tb_drive.proofs.stop.Stop.of.Given as goal

abbrev pub invariant-loop-submitter : goal.invariant-loop-submitter
invariant-loop-submitter l = length l.wakers.items ≡ l.submitter-index
