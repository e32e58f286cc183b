-- Found by the prover itself; on file since the check of an edit then costs less.
use Rattle.std.proofs.Common.{rules}
use Rattle.tb_tables.proofs.stored_status.StoredStatus.first.Goals as goal

pub returns-else-is_pending : goal.returns-else-is_pending
returns-else-is_pending c = search rules
