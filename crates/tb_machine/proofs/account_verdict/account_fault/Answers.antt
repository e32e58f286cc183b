-- Found by the prover itself; on file since the check of an edit then costs less.
use Rattle.std.proofs.Common.{rules}
use Rattle.tb_machine.proofs.account_verdict.account_fault.Goals as goal

pub returns-then-event-ne0-clause-rest : goal.returns-then-event-ne0-clause-rest
returns-then-event-ne0-clause-rest c = search rules

pub returns-then-event-ne0-2-clause-rest : goal.returns-then-event-ne0-2-clause-rest
returns-then-event-ne0-2-clause-rest c = search rules

pub returns-then-event-eq0-clause-rest : goal.returns-then-event-eq0-clause-rest
returns-then-event-eq0-clause-rest c = search rules

pub returns-then-event-clause-rest : goal.returns-then-event-clause-rest
returns-then-event-clause-rest c = search rules

pub returns-clause-rest : goal.returns-clause-rest
returns-clause-rest c = search rules
