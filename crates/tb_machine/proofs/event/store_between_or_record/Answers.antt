-- Found by the prover itself; on file since the check of an edit then costs less.
use Rattle.std.proofs.Common.{rules}
use Rattle.tb_machine.proofs.event.store_between_or_record.Goals as goal

pub returns-then-is_transient-clause-failed : goal.returns-then-is_transient-clause-failed
returns-then-is_transient-clause-failed c = search rules

pub returns-in_err-code-clause-failed : goal.returns-in_err-code-clause-failed
returns-in_err-code-clause-failed c = search rules

pub returns-in_err-record_failed-clause-failed : goal.returns-in_err-record_failed-clause-failed
returns-in_err-record_failed-clause-failed c = search rules

pub returns-in_ok-record_failed-clause-failed : goal.returns-in_ok-record_failed-clause-failed
returns-in_ok-record_failed-clause-failed c = search rules

pub returns-else-code-ne0-clause-failed : goal.returns-else-code-ne0-clause-failed
returns-else-code-ne0-clause-failed c = search rules
