use Rattle.tb_durable.proofs.StoppedRuns.{stopped_runs_follow}
use Rattle.tb_durable.proofs.laws.stopped_runs_follow.Goals as goal

pub returns : goal.returns
returns c = stopped_runs_follow
