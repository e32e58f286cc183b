-- Found by the prover itself; on file since the check of an edit then costs less.
use Rattle.std.proofs.Common.{rules}
use Rattle.tb_work.proofs.admission.count_admitted.Goals as goal

pub returns-then-count-limit : goal.returns-then-count-limit
returns-then-count-limit c = search rules

pub returns : goal.returns
returns c = search rules
