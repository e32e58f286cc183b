-- Found by the prover itself; on file since the check of an edit then costs less.
use Rattle.std.proofs.Common.{rules}
use Rattle.tb_tables.proofs.tables.Tables.add_failed.Goals as goal

pub returns-in_err-insert_failed-clause-ok : goal.returns-in_err-insert_failed-clause-ok
returns-in_err-insert_failed-clause-ok c = search rules

pub returns-clause-ok : goal.returns-clause-ok
returns-clause-ok c = search rules
