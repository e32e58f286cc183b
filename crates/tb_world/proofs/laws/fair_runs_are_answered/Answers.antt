use Rattle.tb_world.proofs.progress.Finish.{fair_runs_are_answered}
use Rattle.tb_world.proofs.laws.fair_runs_are_answered.Goals as goal

pub returns : goal.returns
returns c = fair_runs_are_answered
