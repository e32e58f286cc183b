-- Found by the prover itself; on file since the check of an edit then costs less.
use Rattle.std.proofs.Common.{rules}
use Rattle.kip.proofs.calls.number_of_status.Goals as goal

pub returns-in-None : goal.returns-in-None
returns-in-None c = search rules

pub returns-in-Some-Pending : goal.returns-in-Some-Pending
returns-in-Some-Pending c = search rules

pub returns-in-Some-Posted : goal.returns-in-Some-Posted
returns-in-Some-Posted c = search rules

pub returns-in-Some-Voided : goal.returns-in-Some-Voided
returns-in-Some-Voided c = search rules

pub returns-in-Some-Expired : goal.returns-in-Some-Expired
returns-in-Some-Expired c = search rules
