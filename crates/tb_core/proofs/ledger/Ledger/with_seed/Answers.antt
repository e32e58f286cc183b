-- Found by the prover itself; on file since the check of an edit then costs less.
use Rattle.std.proofs.Common.{rules}
use Rattle.tb_core.proofs.ledger.Ledger.with_seed.Goals as goal

pub returns-clause-ledger : goal.returns-clause-ledger
returns-clause-ledger c = search rules
