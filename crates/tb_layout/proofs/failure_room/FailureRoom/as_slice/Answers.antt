-- Found by the prover itself; on file since the check of an edit then costs less.
use Rattle.std.proofs.Common.{rules}
use Rattle.tb_layout.proofs.failure_room.FailureRoom.as_slice.Goals as goal

pub returns-in-Inline : goal.returns-in-Inline
returns-in-Inline c = search rules
