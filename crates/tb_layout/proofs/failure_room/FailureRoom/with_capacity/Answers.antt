-- Found by the prover itself; on file since the check of an edit then costs less.
use Rattle.std.proofs.Common.{rules}
use Rattle.tb_layout.proofs.failure_room.FailureRoom.with_capacity.Goals as goal

pub returns-clause-capacity : goal.returns-clause-capacity
returns-clause-capacity c = search rules
