-- Found by the prover itself, but late; on file since a check then costs less.
use Rattle.std.proofs.Common.{arith}
use Rattle.tb_machine.proofs.Words.{common_steps}
use Rattle.tb_machine.proofs.lookup.put_found.Goals as goal

pub returns-in-Some-clause-found : goal.returns-in-Some-clause-found
returns-in-Some-clause-found c = grind (arith, common_steps)

pub returns-in_default-clause-found : goal.returns-in_default-clause-found
returns-in_default-clause-found c = grind (arith, common_steps)
