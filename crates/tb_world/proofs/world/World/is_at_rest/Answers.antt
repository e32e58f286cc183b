use Rattle.std.proofs.Common.{rules}
use Rattle.tb_world.proofs.progress.Rests.{rests}
use Rattle.tb_world.proofs.world.World.is_at_rest.Goals as goal

pub returns-in-None-clause-rest : goal.returns-in-None-clause-rest
returns-in-None-clause-rest c = λ is. rests c.args.self.now c.in-None.ensures.none

pub returns-in-Some-clause-moves : goal.returns-in-Some-clause-moves
returns-in-Some-clause-moves c = search rules

pub returns-in-None-clause-moves : goal.returns-in-None-clause-moves
returns-in-None-clause-moves c = search rules
