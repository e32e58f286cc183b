use Rattle.tb_core.proofs.TwoRuns.{two_runs_are_one}
use Rattle.tb_core.proofs.laws.two_runs_are_one.Goals as goal

pub returns : goal.returns
returns c = two_runs_are_one
