-- Found by the prover itself; on file since the check of an edit then costs less.
use Rattle.std.proofs.Common.{rules}
use Rattle.tb_figures.proofs.retries.Retries.with_bound.Goals as goal

pub returns-in_err-with_capacity : goal.returns-in_err-with_capacity
returns-in_err-with_capacity g c = search rules

pub returns : goal.returns
returns g c = search rules
