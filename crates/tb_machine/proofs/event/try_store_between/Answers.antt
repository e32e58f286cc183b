-- Found by the prover itself; on file since the check of an edit then costs less.
use Rattle.std.proofs.Common.{rules}
use Rattle.tb_machine.proofs.event.try_store_between.Goals as goal

pub returns-in_err-store_new-clause-code : goal.returns-in_err-store_new-clause-code
returns-in_err-store_new-clause-code c = search rules

pub returns-then-branch-clause-code : goal.returns-then-branch-clause-code
returns-then-branch-clause-code c = search rules

pub returns-clause-code : goal.returns-clause-code
returns-clause-code c = search rules
