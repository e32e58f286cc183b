use Rattle.tb_world.proofs.orders.Lawful.{runs_go_on}
use Rattle.tb_world.proofs.laws.runs_go_on.Goals as goal

pub returns : goal.returns
returns c = runs_go_on
