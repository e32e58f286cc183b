-- Found by the prover itself; on file since the check of an edit then costs less.
use Rattle.std.proofs.Common.{arith}
use Rattle.std.proofs.lemmas.Grind.{common_steps}
use Rattle.tb_layout.proofs.failure_room.FailureRoom.push.Goals as goal

pub returns-in-Inline-clause-items : goal.returns-in-Inline-clause-items
returns-in-Inline-clause-items c = grind (arith, common_steps)
