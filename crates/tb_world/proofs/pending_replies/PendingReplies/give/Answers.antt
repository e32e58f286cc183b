-- Found by the prover itself; on file since the check of an edit then costs less.
use Rattle.std.proofs.Common.{rules}
use Rattle.tb_world.proofs.pending_replies.PendingReplies.give.Goals as goal

pub invariant_of-self-in-Ok : goal.invariant_of-self-in-Ok
invariant_of-self-in-Ok c = search rules

pub returns-after-self-clause-ok : goal.returns-after-self-clause-ok
returns-after-self-clause-ok c = search rules
