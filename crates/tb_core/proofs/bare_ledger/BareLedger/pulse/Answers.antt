-- Found by the prover itself, but late; on file since a check then costs less.
use Rattle.std.proofs.Common.{arith}
use Rattle.tb_core.proofs.Words.{common_steps}
use Rattle.tb_core.proofs.bare_ledger.BareLedger.pulse.Goals as goal

pub returns-clause-ok : goal.returns-clause-ok
returns-clause-ok c = grind (arith, common_steps)

pub returns-then-halts_at-clause-ok : goal.returns-then-halts_at-clause-ok
returns-then-halts_at-clause-ok c = grind (arith, common_steps)
