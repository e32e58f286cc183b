-- Found by the prover itself; on file since the check of an edit then costs less.
use Rattle.std.proofs.Common.{rules}
use Rattle.tb_layout.proofs.failure_room.FailureRoom.new.Goals as goal

pub returns-clause-items : goal.returns-clause-items
returns-clause-items c = search rules
