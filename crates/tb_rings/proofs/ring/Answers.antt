-- Found by the prover itself; on file since the check of an edit then costs less.
use Rattle.std.proofs.Common.{rules}
use Rattle.tb_rings.proofs.ring.Goals as goal

pub returns-clause-slots : goal.returns-clause-slots
returns-clause-slots c = search rules

pub returns-clause-pair : goal.returns-clause-pair
returns-clause-pair c = search rules
