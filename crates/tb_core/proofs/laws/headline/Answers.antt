use Rattle.tb_core.proofs.HeadlineLemmas.{headline}
use Rattle.tb_core.proofs.laws.headline.Goals as goal

pub returns : goal.returns
returns c = headline
