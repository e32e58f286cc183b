-- Found by the prover itself; on file since the check of an edit then costs less.
use Rattle.std.proofs.Common.{rules}
use Rattle.kip.proofs.calls.kip_lookup_account.Goals as goal

pub returns-in_default-clause-lookup : goal.returns-in_default-clause-lookup
returns-in_default-clause-lookup c = search rules

pub returns-clause-lookup : goal.returns-clause-lookup
returns-clause-lookup c = search rules
