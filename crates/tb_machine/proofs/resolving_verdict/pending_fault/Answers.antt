-- Found by the prover itself; on file since the check of an edit then costs less.
use Rattle.std.proofs.Common.{rules}
use Rattle.tb_machine.proofs.resolving_verdict.pending_fault.Goals as goal

pub returns-clause-pending : goal.returns-clause-pending
returns-clause-pending c = search rules

pub returns-clause-rest : goal.returns-clause-rest
returns-clause-rest c = search rules

pub returns-then-event-pending-2-clause-rest : goal.returns-then-event-pending-2-clause-rest
returns-then-event-pending-2-clause-rest c = search rules

pub returns-then-event-pending-3-clause-rest : goal.returns-then-event-pending-3-clause-rest
returns-then-event-pending-3-clause-rest c = search rules

pub returns-then-event-pending-4-clause-rest : goal.returns-then-event-pending-4-clause-rest
returns-then-event-pending-4-clause-rest c = search rules

pub returns-then-event-pending-5-clause-rest : goal.returns-then-event-pending-5-clause-rest
returns-then-event-pending-5-clause-rest c = search rules

pub returns-then-event-pending-6-clause-rest : goal.returns-then-event-pending-6-clause-rest
returns-then-event-pending-6-clause-rest c = search rules

pub returns-then-event-pending-clause-rest : goal.returns-then-event-pending-clause-rest
returns-then-event-pending-clause-rest c = search rules
