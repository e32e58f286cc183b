-- Found by the prover itself; on file since the check of an edit then costs less.
use Rattle.std.proofs.Common.{rules}
use Rattle.tb_machine.proofs.transfer_verdict.new_id_fault.Goals as goal

pub returns-then-has_exclusive_flags-clause-rest : goal.returns-then-has_exclusive_flags-clause-rest
returns-then-has_exclusive_flags-clause-rest c = search rules

pub returns-then-failed-clause-rest : goal.returns-then-failed-clause-rest
returns-then-failed-clause-rest c = search rules

pub returns-clause-rest : goal.returns-clause-rest
returns-clause-rest c = search rules
