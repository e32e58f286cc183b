use Rattle.tb_world.proofs.progress.Rounds.{one_round_is_a_round}
use Rattle.tb_world.proofs.laws.one_round_is_a_round.Goals as goal

pub returns : goal.returns
returns c = one_round_is_a_round
