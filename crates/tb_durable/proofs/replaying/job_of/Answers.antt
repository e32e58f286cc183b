-- Found by the prover itself; on file since the check of an edit then costs less.
use Rattle.std.proofs.Common.{rules}
use Rattle.tb_durable.proofs.replaying.job_of.Goals as goal

pub returns-in-Ok-clause-admitted : goal.returns-in-Ok-clause-admitted
returns-in-Ok-clause-admitted c = search rules

pub returns-after-eq-clause-admitted : goal.returns-after-eq-clause-admitted
returns-after-eq-clause-admitted c = search rules
