-- Found by the prover itself; on file since the check of an edit then costs less.
use Rattle.std.proofs.Common.{rules}
use Rattle.tb_core.proofs.bare_ledger.returned.Goals as goal

pub returns-in-Shutdown : goal.returns-in-Shutdown
returns-in-Shutdown c = search rules

pub returns-in-Stopped : goal.returns-in-Stopped
returns-in-Stopped c = search rules
