-- Found by the prover itself; on file since the check of an edit then costs less.
use Rattle.std.proofs.Common.{arith}
use Rattle.std.proofs.lemmas.Grind.{common_steps}
use Rattle.tb_tables.proofs.tables.Tables.accounts.Goals as goal

pub returns : goal.returns
returns c = grind (arith, common_steps)
