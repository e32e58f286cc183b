use Rattle.tb_world.proofs.Words.{left}
use Rattle.tb_world.proofs.progress.Finish.{SoFar}
use Rattle.tb_world.proofs.world.World.finish.Given as goal

abbrev pub invariant-loop-event : goal.invariant-loop-event
invariant-loop-event l = SoFar l.fn.self l.self

abbrev pub decreases-loop-event : goal.decreases-loop-event
decreases-loop-event l = left l.self
