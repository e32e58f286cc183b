use Rattle.tb_rings.proofs.Waking.{waking_ends}
use Rattle.tb_rings.proofs.laws.waking_ends.Goals as goal

pub returns : goal.returns
returns c = waking_ends
