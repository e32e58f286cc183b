-- Found by the prover itself; on file since the check of an edit then costs less.
use Rattle.std.proofs.Common.{rules}
use Rattle.tb_machine.proofs.transfer_verdict.compare_resolved_at.Goals as goal

pub returns-clause-code : goal.returns-clause-code
returns-clause-code c = search rules
