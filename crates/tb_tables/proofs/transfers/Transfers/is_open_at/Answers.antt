-- Found by the prover itself; on file since the check of an edit then costs less.
use Rattle.std.proofs.Common.{rules}
use Rattle.tb_tables.proofs.transfers.Transfers.is_open_at.Goals as goal

pub returns-in-Some-Pending : goal.returns-in-Some-Pending
returns-in-Some-Pending c = search rules

pub returns-in_default : goal.returns-in_default
returns-in_default c = search rules

pub returns-in_default-2 : goal.returns-in_default-2
returns-in_default-2 c = search rules
