use Rattle.tb_figures.proofs.LedgerLemmas.{counts_are_exact}
use Rattle.tb_figures.proofs.laws.counts_are_exact.Goals as goal

pub returns : goal.returns
returns c = counts_are_exact
