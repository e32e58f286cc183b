-- Found by the prover itself; on file since the check of an edit then costs less.
use Rattle.std.proofs.Common.{rules}
use Rattle.tb_work.proofs.job.room_for.Goals as goal

pub returns-else-looks_up-clause-fits : goal.returns-else-looks_up-clause-fits
returns-else-looks_up-clause-fits c = search rules

pub returns-then-looks_up-clause-none : goal.returns-then-looks_up-clause-none
returns-then-looks_up-clause-none c = search rules
