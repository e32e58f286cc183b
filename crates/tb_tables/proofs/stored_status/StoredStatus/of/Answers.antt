-- Found by the prover itself; on file since the check of an edit then costs less.
use Rattle.std.proofs.Common.{rules}
use Rattle.tb_tables.proofs.stored_status.StoredStatus.of.Goals as goal

pub returns-in-Expired : goal.returns-in-Expired
returns-in-Expired c = search rules
