-- Found by the prover itself; on file since the check of an edit then costs less.
use Rattle.std.proofs.Common.{rules}
use Rattle.tb_tables.proofs.row.Row.is_open.Goals as goal

pub returns-in_default : goal.returns-in_default
returns-in_default c = search rules
