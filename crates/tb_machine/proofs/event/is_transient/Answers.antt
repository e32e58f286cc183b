-- Found by the prover itself; on file since the check of an edit then costs less.
use Rattle.std.proofs.Common.{rules}
use Rattle.tb_machine.proofs.event.is_transient.Goals as goal

pub returns-else-code-number-4 : goal.returns-else-code-number-4
returns-else-code-number-4 c = search rules
