-- Found by the prover itself; on file since the check of an edit then costs less.
use Rattle.std.proofs.Common.{rules}
use Rattle.tb_core.proofs.front.Front.packet.Goals as goal

pub returns-in-Ok-Some-clause-took : goal.returns-in-Ok-Some-clause-took
returns-in-Ok-Some-clause-took c = search rules

pub returns-in-Ok-None-clause-took : goal.returns-in-Ok-None-clause-took
returns-in-Ok-None-clause-took c = search rules

pub returns-in-Err-clause-took : goal.returns-in-Err-clause-took
returns-in-Err-clause-took c = search rules
