-- Found by the prover itself; on file since the check of an edit then costs less.
use Rattle.std.proofs.Common.{rules}
use Rattle.tb_drive.proofs.controlling.pulse_once.Goals as goal

pub returns-then-queued-ge-QUEUED_MAX-clause-large : goal.returns-then-queued-ge-QUEUED_MAX-clause-large
returns-then-queued-ge-QUEUED_MAX-clause-large c = search rules

pub returns-clause-large : goal.returns-clause-large
returns-clause-large g c = search rules
