-- Found by the prover itself; on file since the check of an edit then costs less.
use Rattle.std.proofs.Common.{rules}
use Rattle.tb_tables.proofs.storing.push_transfer.Goals as goal

pub returns-in_err-insert_expiry-clause-put : goal.returns-in_err-insert_expiry-clause-put
returns-in_err-insert_expiry-clause-put c = search rules

pub returns-in_err-insert_expiry-clause-same : goal.returns-in_err-insert_expiry-clause-same
returns-in_err-insert_expiry-clause-same c = search rules

pub returns-then-ne-clause-put : goal.returns-then-ne-clause-put
returns-then-ne-clause-put c = search rules

pub returns-then-ne-clause-same : goal.returns-then-ne-clause-same
returns-then-ne-clause-same c = search rules

pub returns-else-ne-clause-put : goal.returns-else-ne-clause-put
returns-else-ne-clause-put c = search rules

pub returns-else-ne-clause-same : goal.returns-else-ne-clause-same
returns-else-ne-clause-same c = search rules
