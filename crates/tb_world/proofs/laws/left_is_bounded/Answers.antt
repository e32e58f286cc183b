use Rattle.tb_world.proofs.progress.Finish.{left_is_bounded}
use Rattle.tb_world.proofs.laws.left_is_bounded.Goals as goal

pub returns : goal.returns
returns c = left_is_bounded
