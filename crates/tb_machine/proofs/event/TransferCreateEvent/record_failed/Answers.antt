-- Found by the prover itself; on file since the check of an edit then costs less.
use Rattle.std.proofs.Common.{rules}
use Rattle.tb_machine.proofs.event.TransferCreateEvent.record_failed.Goals as goal

pub returns-in_err-insert_failed-clause-facts : goal.returns-in_err-insert_failed-clause-facts
returns-in_err-insert_failed-clause-facts c = search rules

pub returns-in_ok-insert_failed-clause-facts : goal.returns-in_ok-insert_failed-clause-facts
returns-in_ok-insert_failed-clause-facts c = search rules

pub returns-else-is_transient-clause-facts : goal.returns-else-is_transient-clause-facts
returns-else-is_transient-clause-facts c = search rules
