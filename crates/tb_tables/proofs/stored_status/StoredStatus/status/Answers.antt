-- Found by the prover itself; on file since the check of an edit then costs less.
use Rattle.std.proofs.Common.{rules}
use Rattle.tb_tables.proofs.stored_status.StoredStatus.status.Goals as goal

pub returns-in-Voided : goal.returns-in-Voided
returns-in-Voided c = search rules
