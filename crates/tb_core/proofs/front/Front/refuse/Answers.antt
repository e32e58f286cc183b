-- Found by the prover itself; on file since the check of an edit then costs less.
use Rattle.std.proofs.Common.{rules}
use Rattle.tb_core.proofs.front.Front.refuse.Goals as goal

pub returns-clause-took : goal.returns-clause-took
returns-clause-took c = search rules
