-- Found by the prover itself; on file since the check of an edit then costs less.
use Rattle.std.proofs.Common.{rules}
use Rattle.tb_pipe.proofs.opening.Options.open.Goals as goal

pub returns-clause-intake : goal.returns-clause-intake
returns-clause-intake c = search rules
