-- Found by the prover itself; on file since the check of an edit then costs less.
use Rattle.std.proofs.Common.{rules}
use Rattle.tb_core.proofs.ledger.Ledger.journal.Goals as goal

pub returns-clause-groups : goal.returns-clause-groups
returns-clause-groups c = search rules

pub returns-clause-whole : goal.returns-clause-whole
returns-clause-whole c = search rules
