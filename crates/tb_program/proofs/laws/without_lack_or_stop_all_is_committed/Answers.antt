use Rattle.tb_program.proofs.Whole as whole
use Rattle.tb_program.proofs.laws.without_lack_or_stop_all_is_committed.Goals as goal

pub returns : goal.returns
returns c = whole.without_lack_or_stop_all_is_committed
