-- Found by the prover itself; on file since the check of an edit then costs less.
use Rattle.std.proofs.Common.{rules}
use Rattle.tb_durable.proofs.counts.PacketCounts.count.Goals as goal

pub returns-in_err-number-clause-follows : goal.returns-in_err-number-clause-follows
returns-in_err-number-clause-follows c = search rules

pub returns-in_err-number-clause-counted : goal.returns-in_err-number-clause-counted
returns-in_err-number-clause-counted c = search rules

pub returns-in_err-packets-clause-follows : goal.returns-in_err-packets-clause-follows
returns-in_err-packets-clause-follows c = search rules

pub returns-in_err-packets-clause-counted : goal.returns-in_err-packets-clause-counted
returns-in_err-packets-clause-counted c = search rules

pub returns-clause-follows : goal.returns-clause-follows
returns-clause-follows c = search rules

pub returns-clause-counted : goal.returns-clause-counted
returns-clause-counted c = search rules
