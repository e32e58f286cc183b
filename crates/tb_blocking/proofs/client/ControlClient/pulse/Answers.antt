-- Found by the prover itself; on file since the check of an edit then costs less.
use Rattle.std.proofs.Common.{rules}
use Rattle.tb_blocking.proofs.client.ControlClient.pulse.Goals as goal

pub returns-in_default-clause-large : goal.returns-in_default-clause-large
returns-in_default-clause-large g c = search rules

pub returns-in_default-clause-ok : goal.returns-in_default-clause-ok
returns-in_default-clause-ok g c = search rules
