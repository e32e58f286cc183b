use Rattle.tb_core.proofs.EachSubmitter.{committed_are_answered}
use Rattle.tb_core.proofs.laws.committed_are_answered.Goals as goal

pub returns : goal.returns
returns c = committed_are_answered
