use Rattle.tb_world.proofs.orders.Lawful.{worlds_follow}
use Rattle.tb_world.proofs.laws.worlds_follow.Goals as goal

pub returns : goal.returns
returns c = worlds_follow
