-- Found by the prover itself; on file since the check of an edit then costs less.
use Rattle.std.proofs.Common.{rules}
use Rattle.tb_tables.proofs.entries.resolved_status.Goals as goal

pub returns-then-is_post : goal.returns-then-is_post
returns-then-is_post c = search rules

pub returns-else-is_post : goal.returns-else-is_post
returns-else-is_post c = search rules
