-- Found by the prover itself; on file since the check of an edit then costs less.
use Rattle.std.proofs.Common.{rules}
use Rattle.tb_figures.proofs.figures.SubmitterFigures.and.Goals as goal

pub returns-clause-queued : goal.returns-clause-queued
returns-clause-queued c = search rules
