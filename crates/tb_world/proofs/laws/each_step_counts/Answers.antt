use Rattle.tb_world.proofs.progress.Finish.{each_step_counts}
use Rattle.tb_world.proofs.laws.each_step_counts.Goals as goal

pub returns : goal.returns
returns c = each_step_counts
