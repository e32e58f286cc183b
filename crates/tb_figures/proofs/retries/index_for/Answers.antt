-- Found by the prover itself; on file since the check of an edit then costs less.
use Rattle.std.proofs.Common.{rules, arith}
use Rattle.std.proofs.lemmas.Grind.{common_steps}
use Rattle.tb_figures.proofs.retries.index_for.Goals as goal

pub returns-then-moment-one : goal.returns-then-moment-one
returns-then-moment-one g c = grind (arith, common_steps)

pub returns : goal.returns
returns g c = search rules
