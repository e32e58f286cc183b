use Rattle.tb_world.proofs.progress.Rests.{none_is_stuck}
use Rattle.tb_world.proofs.laws.none_is_stuck.Goals as goal

pub returns : goal.returns
returns c = λ slots credit world some_slots some_credit. none_is_stuck slots credit some_slots some_credit world
