-- Found by the prover itself; on file since the check of an edit then costs less.
use Rattle.std.proofs.Common.{rules}
use Rattle.tb_rings.proofs.waiting.may_yield.Goals as goal

pub returns-then-long_yields-lt2-clause-few : goal.returns-then-long_yields-lt2-clause-few
returns-then-long_yields-lt2-clause-few c = search rules

pub returns-clause-many : goal.returns-clause-many
returns-clause-many c = search rules
