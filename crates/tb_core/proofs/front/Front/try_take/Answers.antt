-- Found by the prover itself; on file since the check of an edit then costs less.
use Rattle.std.proofs.Common.{rules}
use Rattle.tb_core.proofs.front.Front.try_take.Goals as goal

pub returns-in-End-clause-ok : goal.returns-in-End-clause-ok
returns-in-End-clause-ok c = search rules

pub returns-in-Packet-clause-memory : goal.returns-in-Packet-clause-memory
returns-in-Packet-clause-memory c = search rules

pub returns-in-Pulse-clause-memory : goal.returns-in-Pulse-clause-memory
returns-in-Pulse-clause-memory c = search rules

pub returns-in-End-clause-memory : goal.returns-in-End-clause-memory
returns-in-End-clause-memory c = search rules

pub returns-in-Close-clause-memory : goal.returns-in-Close-clause-memory
returns-in-Close-clause-memory c = search rules
