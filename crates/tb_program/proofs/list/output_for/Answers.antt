-- Found by the prover itself; on file since the check of an edit then costs less.
use Rattle.std.proofs.Common.{rules}
use Rattle.tb_program.proofs.list.output_for.Goals as goal

pub returns-in_err-settings-clause-operations : goal.returns-in_err-settings-clause-operations
returns-in_err-settings-clause-operations c = search rules

pub returns-in_err-operations-clause-operations : goal.returns-in_err-operations-clause-operations
returns-in_err-operations-clause-operations c = search rules

pub returns-in_err-queue-clause-operations : goal.returns-in_err-queue-clause-operations
returns-in_err-queue-clause-operations c = search rules

pub returns-in_err-text_of-clause-operations : goal.returns-in_err-text_of-clause-operations
returns-in_err-text_of-clause-operations c = search rules

pub returns-clause-operations : goal.returns-clause-operations
returns-clause-operations c = search rules
