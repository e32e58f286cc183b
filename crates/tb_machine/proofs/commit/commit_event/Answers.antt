-- Found by the prover itself; on file since the check of an edit then costs less.
use Rattle.std.proofs.Common.{rules}
use Rattle.tb_machine.proofs.commit.commit_event.Goals as goal

pub returns-in_err-code-clause-committed : goal.returns-in_err-code-clause-committed
returns-in_err-code-clause-committed g c = search rules

pub returns-then-code-ne0-clause-committed : goal.returns-then-code-ne0-clause-committed
returns-then-code-ne0-clause-committed g c = search rules

pub returns-else-code-ne0-clause-committed : goal.returns-else-code-ne0-clause-committed
returns-else-code-ne0-clause-committed g c = search rules
