use Rattle.tb_core.proofs.EachSubmitter.{committed_of_each_submitter}
use Rattle.tb_core.proofs.laws.committed_of_each_submitter.Goals as goal

pub returns : goal.returns
returns c = committed_of_each_submitter
