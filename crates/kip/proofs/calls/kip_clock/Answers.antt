-- Found by the prover itself; on file since the check of an edit then costs less.
use Rattle.std.proofs.Common.{rules}
use Rattle.kip.proofs.calls.kip_clock.Goals as goal

pub returns-in_default-clause-clock : goal.returns-in_default-clause-clock
returns-in_default-clause-clock c = search rules

pub returns-in_default-clause-same : goal.returns-in_default-clause-same
returns-in_default-clause-same c = search rules

pub returns-clause-clock : goal.returns-clause-clock
returns-clause-clock c = search rules

pub returns-clause-same : goal.returns-clause-same
returns-clause-same c = search rules
