-- Found by the prover itself; on file since the check of an edit then costs less.
use Rattle.std.proofs.Common.{rules}
use Rattle.tb_tables.proofs.storing.insert_expiry.Goals as goal

pub returns-in_err-insert-clause-ok : goal.returns-in_err-insert-clause-ok
returns-in_err-insert-clause-ok c = search rules

pub returns-else-is_timed-clause-ok : goal.returns-else-is_timed-clause-ok
returns-else-is_timed-clause-ok c = search rules
