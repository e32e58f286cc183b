use Rattle.tb_world.proofs.progress.Credit.{credit_leaves_room}
use Rattle.tb_world.proofs.laws.credit_leaves_room.Goals as goal

pub returns : goal.returns
returns c = credit_leaves_room
