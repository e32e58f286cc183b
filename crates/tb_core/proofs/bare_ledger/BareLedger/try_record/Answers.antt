-- Found by the prover itself; on file since the check of an edit then costs less.
use Rattle.std.proofs.Common.{rules}
use Rattle.tb_core.proofs.bare_ledger.BareLedger.try_record.Goals as goal

pub returns-in-Batch-clause-memory : goal.returns-in-Batch-clause-memory
returns-in-Batch-clause-memory c = search rules

pub returns-in-Pulse-clause-memory : goal.returns-in-Pulse-clause-memory
returns-in-Pulse-clause-memory c = search rules

pub returns-in-Return-clause-memory : goal.returns-in-Return-clause-memory
returns-in-Return-clause-memory c = search rules

pub returns-in-Last-clause-memory : goal.returns-in-Last-clause-memory
returns-in-Last-clause-memory c = search rules
