-- Found by the prover itself; on file since the check of an edit then costs less.
use Rattle.std.proofs.Common.{rules}
use Rattle.tb_drive.proofs.plan.ControlPlan.none.Goals as goal

pub returns-clause-open : goal.returns-clause-open
returns-clause-open c = search rules
