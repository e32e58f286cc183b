-- Found by the prover itself, but late; on file since a check then costs less.
use Rattle.std.proofs.Common.{arith}
use Rattle.tb_machine.proofs.Words.{common_steps}
use Rattle.tb_machine.proofs.lookup.look_up.Goals as goal

pub loop-chunk-preserved : goal.loop-chunk-preserved
loop-chunk-preserved c = grind (arith, common_steps)
