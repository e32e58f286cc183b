-- Found by the prover itself; on file since the check of an edit then costs less.
use Rattle.std.proofs.Common.{rules}
use Rattle.tb_figures.proofs.retries.Retries.next_moment.Goals as goal

pub returns-clause-first : goal.returns-clause-first
returns-clause-first g c = search rules
