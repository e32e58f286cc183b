-- Found by the prover itself; on file since the check of an edit then costs less.
use Rattle.std.proofs.Common.{rules}
use Rattle.kip.proofs.calls.kip_stopped.Goals as goal

pub returns-in_default-clause-status : goal.returns-in_default-clause-status
returns-in_default-clause-status c = search rules

pub returns-then-has_stopped-clause-status : goal.returns-then-has_stopped-clause-status
returns-then-has_stopped-clause-status c = search rules

pub returns-else-has_stopped-clause-status : goal.returns-else-has_stopped-clause-status
returns-else-has_stopped-clause-status c = search rules
