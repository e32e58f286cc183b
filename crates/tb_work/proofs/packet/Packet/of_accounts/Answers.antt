-- Found by the prover itself; on file since the check of an edit then costs less.
use Rattle.std.proofs.Common.{rules}
use Rattle.tb_work.proofs.packet.Packet.of_accounts.Goals as goal

pub returns-clause-operation : goal.returns-clause-operation
returns-clause-operation c = search rules

pub returns-clause-events : goal.returns-clause-events
returns-clause-events c = search rules

pub returns-clause-bytes : goal.returns-clause-bytes
returns-clause-bytes c = search rules
