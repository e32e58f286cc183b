-- Found by the prover itself; on file since the check of an edit then costs less.
use Rattle.std.proofs.Common.{rules}
use Rattle.tb_work.proofs.packet.Packet.of_ids.Goals as goal

pub returns-in_err-lay_ids-clause-operation : goal.returns-in_err-lay_ids-clause-operation
returns-in_err-lay_ids-clause-operation c = search rules

pub returns-clause-operation : goal.returns-clause-operation
returns-clause-operation c = search rules
