-- Found by the prover itself; on file since the check of an edit then costs less.
use Rattle.std.proofs.Common.{rules}
use Rattle.tb_core.proofs.bare_ledger.BareLedger.refuse.Goals as goal

pub returns-in-Pulse-clause-applied : goal.returns-in-Pulse-clause-applied
returns-in-Pulse-clause-applied c = search rules

pub returns-in-Return-clause-applied : goal.returns-in-Return-clause-applied
returns-in-Return-clause-applied c = search rules

pub returns-in-Last-clause-applied : goal.returns-in-Last-clause-applied
returns-in-Last-clause-applied c = search rules
