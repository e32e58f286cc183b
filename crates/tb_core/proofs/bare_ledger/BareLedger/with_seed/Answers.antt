-- Found by the prover itself; on file since the check of an edit then costs less.
use Rattle.std.proofs.Common.{rules}
use Rattle.tb_core.proofs.bare_ledger.BareLedger.with_seed.Goals as goal

pub returns-clause-new : goal.returns-clause-new
returns-clause-new c = search rules
