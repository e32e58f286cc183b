-- Found by the prover itself; on file since the check of an edit then costs less.
use Rattle.std.proofs.Common.{rules}
use Rattle.tb_tables.proofs.entries.push_failed.Goals as goal

pub returns-in_err-insert-clause-added : goal.returns-in_err-insert-clause-added
returns-in_err-insert-clause-added c = search rules

pub returns-clause-added : goal.returns-clause-added
returns-clause-added c = search rules
