use Rattle.tb_core.proofs.front.Front.take.Goals as goal

pub returns : goal.returns
returns c = c.take_into.ensures
