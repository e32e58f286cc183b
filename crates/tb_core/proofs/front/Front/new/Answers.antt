-- Found by the prover itself; on file since the check of an edit then costs less.
use Rattle.std.proofs.Common.{rules}
use Rattle.tb_core.proofs.front.Front.new.Goals as goal

pub returns-clause-opens : goal.returns-clause-opens
returns-clause-opens c = search rules

pub returns-clause-front : goal.returns-clause-front
returns-clause-front c = search rules
