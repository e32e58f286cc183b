-- Found by the prover itself; on file since the check of an edit then costs less.
use Rattle.std.proofs.Common.{rules}
use Rattle.tb_tables.proofs.timeouts.is_due_at.Goals as goal

pub returns-in_default : goal.returns-in_default
returns-in_default c = search rules

pub returns-then-is_timed : goal.returns-then-is_timed
returns-then-is_timed c = search rules

pub returns-else-is_timed : goal.returns-else-is_timed
returns-else-is_timed c = search rules
