use Rattle.tb_figures.proofs.Words.{AreUpTo}
use Rattle.tb_figures.proofs.retries.index_for.Given as goal

abbrev pub invariant-loop-index : goal.invariant-loop-index
invariant-loop-index g l = AreUpTo l.waiting l.moment l.index
