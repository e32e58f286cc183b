-- Found by the prover itself; on file since the check of an edit then costs less.
use Rattle.std.proofs.Common.{rules}
use Rattle.tb_core.proofs.front.Front.pulse.Goals as goal

pub returns-then-not-self-2-clause-took : goal.returns-then-not-self-2-clause-took
returns-then-not-self-2-clause-took c = search rules
