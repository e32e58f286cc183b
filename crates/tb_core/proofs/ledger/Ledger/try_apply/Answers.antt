-- Found by the prover itself, but late; on file since a check then costs less.
use Rattle.std.proofs.Common.{arith, rules}
use Rattle.tb_core.proofs.Words.{common_steps}
use Rattle.tb_core.proofs.ledger.Ledger.try_apply.Goals as goal

pub invariant_of-self-in-Some : goal.invariant_of-self-in-Some
invariant_of-self-in-Some c = grind (arith, common_steps)

pub returns-clause-ok : goal.returns-clause-ok
returns-clause-ok c = grind (arith, common_steps)

pub returns-then-is_err-clause-memory : goal.returns-then-is_err-clause-memory
returns-then-is_err-clause-memory c = search rules

pub returns-in_err-outcomes-clause-memory : goal.returns-in_err-outcomes-clause-memory
returns-in_err-outcomes-clause-memory c = search rules

pub returns-clause-memory : goal.returns-clause-memory
returns-clause-memory c = search rules
