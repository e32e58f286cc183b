-- Found by the prover itself; on file since the check of an edit then costs less.
use Rattle.std.proofs.Common.{rules}
use Rattle.tb_layout.proofs.operation.Operation.of_number.Goals as goal

pub returns-in-130 : goal.returns-in-130
returns-in-130 c = search rules
