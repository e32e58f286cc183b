-- Found by the prover itself; on file since the check of an edit then costs less.
use Rattle.std.proofs.Common.{rules}
use Rattle.tb_core.proofs.bare_ledger.stopped.Goals as goal

pub returns-clause-replies : goal.returns-clause-replies
returns-clause-replies c = search rules
