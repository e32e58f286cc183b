-- Found by the prover itself, but late; on file since a check then costs less.
use Rattle.std.proofs.Common.{arith}
use Rattle.tb_machine.proofs.Words.{common_steps}
use Rattle.tb_machine.proofs.creating_verdict.check_accounts.Goals as goal

pub returns : goal.returns
returns c = grind (arith, common_steps)
