-- Found by the prover itself; on file since the check of an edit then costs less.
use Rattle.std.proofs.Common.{rules}
use Rattle.tb_layout.proofs.operation.Operation.name.Goals as goal

pub returns-in-LookupAccounts : goal.returns-in-LookupAccounts
returns-in-LookupAccounts c = search rules
