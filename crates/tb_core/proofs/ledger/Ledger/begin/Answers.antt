-- Found by the prover itself; on file since the check of an edit then costs less.
use Rattle.std.proofs.Common.{rules}
use Rattle.tb_core.proofs.ledger.Ledger.begin.Goals as goal

pub returns-clause-start : goal.returns-clause-start
returns-clause-start c = search rules
