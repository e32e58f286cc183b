-- Found by the prover itself; on file since the check of an edit then costs less.
use Rattle.std.proofs.Common.{rules}
use Rattle.tb_core.proofs.front.Front.try_packet.Goals as goal

pub returns-then-self-clause-memory : goal.returns-then-self-clause-memory
returns-then-self-clause-memory c = search rules

pub returns-then-self-2-clause-memory : goal.returns-then-self-2-clause-memory
returns-then-self-2-clause-memory c = search rules

pub returns-clause-memory : goal.returns-clause-memory
returns-clause-memory c = search rules
