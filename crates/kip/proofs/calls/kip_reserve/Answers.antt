-- Found by the prover itself; on file since the check of an edit then costs less.
use Rattle.std.proofs.Common.{rules}
use Rattle.kip.proofs.calls.kip_reserve.Goals as goal

pub returns-in_default-clause-status : goal.returns-in_default-clause-status
returns-in_default-clause-status c = search rules

pub returns-in_default-clause-same : goal.returns-in_default-clause-same
returns-in_default-clause-same c = search rules

pub returns-clause-status : goal.returns-clause-status
returns-clause-status c = search rules

pub returns-clause-same : goal.returns-clause-same
returns-clause-same c = search rules
