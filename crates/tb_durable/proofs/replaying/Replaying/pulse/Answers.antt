-- Found by the prover itself; on file since the check of an edit then costs less.
use Rattle.std.proofs.Common.{rules}
use Rattle.tb_durable.proofs.replaying.Replaying.pulse.Goals as goal

pub returns-then-stopped-clause-group : goal.returns-then-stopped-clause-group
returns-then-stopped-clause-group c = search rules

pub returns-clause-group : goal.returns-clause-group
returns-clause-group c = search rules
