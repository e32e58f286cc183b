-- Found by the prover itself; on file since the check of an edit then costs less.
use Rattle.std.proofs.Common.{rules}
use Rattle.tb_machine.proofs.event.record_transient.Goals as goal

pub returns-in-Some-clause-failed : goal.returns-in-Some-clause-failed
returns-in-Some-clause-failed c = search rules

pub returns-in_err-insert_failed-clause-failed : goal.returns-in_err-insert_failed-clause-failed
returns-in_err-insert_failed-clause-failed c = search rules
