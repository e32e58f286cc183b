use Rattle.std.proofs.Common.{◌≡◌, ◌++◌, length}
use Rattle.tb_core.proofs.list.put_all.Given as goal

abbrev pub invariant-loop-reply : goal.invariant-loop-reply
invariant-loop-reply l = l.replies.items ++ l.cutter ≡ l.initial.replies.items ++ l.initial.cutter

abbrev pub decreases-loop-reply : goal.decreases-loop-reply
decreases-loop-reply l = length l.cutter
