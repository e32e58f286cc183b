-- Found by the prover itself; on file since the check of an edit then costs less.
use Rattle.std.proofs.Common.{rules, arith}
use Rattle.std.proofs.lemmas.Grind.{common_steps}
use Rattle.tb_program.proofs.operations.put_operations.Goals as goal

pub loop-packet-init : goal.loop-packet-init
loop-packet-init c = search rules

pub loop-packet-smaller : goal.loop-packet-smaller
loop-packet-smaller c = search rules

pub loop-packet-preserved : goal.loop-packet-preserved
loop-packet-preserved c = grind (arith, common_steps)
