-- Found by the prover itself; on file since the check of an edit then costs less.
use Rattle.std.proofs.Common.{rules}
use Rattle.tb_work.proofs.refusal.Refusal.number.Goals as goal

pub returns-in-Full : goal.returns-in-Full
returns-in-Full c = search rules
