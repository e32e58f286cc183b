-- Found by the prover itself; on file since the check of an edit then costs less.
use Rattle.std.proofs.Common.{rules}
use Rattle.tb_core.proofs.front.Front.seal_before.Goals as goal

pub returns-clause-sealed : goal.returns-clause-sealed
returns-clause-sealed c = search rules
