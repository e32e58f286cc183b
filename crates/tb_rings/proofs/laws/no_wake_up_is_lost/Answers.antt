use Rattle.tb_rings.proofs.Waking.{no_wake_up_is_lost}
use Rattle.tb_rings.proofs.laws.no_wake_up_is_lost.Goals as goal

pub returns : goal.returns
returns c = no_wake_up_is_lost
