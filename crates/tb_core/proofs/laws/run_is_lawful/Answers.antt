use Rattle.tb_core.proofs.Runs.{run_is_lawful}
use Rattle.tb_core.proofs.laws.run_is_lawful.Goals as goal

pub returns : goal.returns
returns c = run_is_lawful
