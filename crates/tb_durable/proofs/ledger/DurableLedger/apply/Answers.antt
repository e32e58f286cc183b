-- Found by the prover itself; on file since the check of an edit then costs less.
use Rattle.std.proofs.Common.{rules}
use Rattle.tb_durable.proofs.ledger.DurableLedger.apply.Goals as goal

pub returns-in-Batch : goal.returns-in-Batch
returns-in-Batch g c = search rules

pub returns-in-Return : goal.returns-in-Return
returns-in-Return g c = search rules

pub returns-in-Last : goal.returns-in-Last
returns-in-Last g c = search rules
