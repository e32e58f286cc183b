-- Found by the prover itself; on file since the check of an edit then costs less.
use Rattle.std.proofs.Common.{rules}
use Rattle.tb_figures.proofs.retries.Retries.pop_due.Goals as goal

pub returns-in-Some-clause-due : goal.returns-in-Some-clause-due
returns-in-Some-clause-due g c = search rules

pub returns-in_default-clause-due : goal.returns-in_default-clause-due
returns-in_default-clause-due g c = search rules
