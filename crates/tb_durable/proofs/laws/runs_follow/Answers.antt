use Rattle.tb_durable.proofs.RunLemmas.{runs_follow}
use Rattle.tb_durable.proofs.laws.runs_follow.Goals as goal

pub returns : goal.returns
returns c = runs_follow
