-- Found by the prover itself; on file since the check of an edit then costs less.
use Rattle.std.proofs.Common.{rules}
use Rattle.tb_machine.proofs.resolving_verdict.resolve.Goals as goal

pub returns-else-number-eq0-clause-faulty : goal.returns-else-number-eq0-clause-faulty
returns-else-number-eq0-clause-faulty c = search rules

pub returns-in-Some-pending_fault-clause-faulty : goal.returns-in-Some-pending_fault-clause-faulty
returns-in-Some-pending_fault-clause-faulty c = search rules

pub returns-then-number-eq0-clause-ok : goal.returns-then-number-eq0-clause-ok
returns-then-number-eq0-clause-ok c = search rules

pub returns-then-number-eq0-clause-stored : goal.returns-then-number-eq0-clause-stored
returns-then-number-eq0-clause-stored c = search rules
