-- Found by the prover itself; on file since the check of an edit then costs less.
use Rattle.std.proofs.Common.{rules}
use Rattle.kip.proofs.handle.Kip.engine.Goals as goal

pub returns-then-not-self : goal.returns-then-not-self
returns-then-not-self c = search rules
