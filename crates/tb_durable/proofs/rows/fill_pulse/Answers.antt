-- Found by the prover itself; on file since the check of an edit then costs less.
use Rattle.std.proofs.Common.{rules}
use Rattle.tb_durable.proofs.rows.fill_pulse.Goals as goal

pub returns-clause-row : goal.returns-clause-row
returns-clause-row c = search rules
