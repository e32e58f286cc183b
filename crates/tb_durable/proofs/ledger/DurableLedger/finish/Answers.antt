-- Found by the prover itself; on file since the check of an edit then costs less.
use Rattle.std.proofs.Common.{rules}
use Rattle.tb_durable.proofs.ledger.DurableLedger.finish.Goals as goal

pub returns-in-Err-clause-finishes : goal.returns-in-Err-clause-finishes
returns-in-Err-clause-finishes g c = search rules

pub returns-then-self-clause-finishes : goal.returns-then-self-clause-finishes
returns-then-self-clause-finishes g c = search rules

pub returns-else-self-clause-finishes : goal.returns-else-self-clause-finishes
returns-else-self-clause-finishes g c = search rules
