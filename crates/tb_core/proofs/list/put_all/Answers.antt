-- Found by the prover itself, but late; on file since a check then costs less.
use Rattle.std.proofs.Common.{arith}
use Rattle.tb_core.proofs.Words.{common_steps}
use Rattle.tb_core.proofs.list.put_all.Goals as goal

pub loop-reply-preserved : goal.loop-reply-preserved
loop-reply-preserved c = grind (arith, common_steps)
