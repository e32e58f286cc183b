use Rattle.tb_world.proofs.progress.Rounds.{fair_lists_rest}
use Rattle.tb_world.proofs.laws.fair_lists_rest.Goals as goal

pub returns : goal.returns
returns c = fair_lists_rest
