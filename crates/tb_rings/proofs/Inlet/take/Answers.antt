-- Found by the prover itself; on file since the check of an edit then costs less.
use Rattle.std.proofs.Common.{rules}
use Rattle.tb_rings.proofs.Inlet.take.Goals as goal

pub returns-clause-some : goal.returns-clause-some
returns-clause-some c = search rules
