-- Found by the prover itself; on file since the check of an edit then costs less.
use Rattle.std.proofs.Common.{rules}
use Rattle.tb_machine.proofs.event.AccountCreateEvent.try_store.Goals as goal

pub returns-in_err-insert_account-clause-stored : goal.returns-in_err-insert_account-clause-stored
returns-in_err-insert_account-clause-stored c = search rules

pub returns-then-branch-clause-stored : goal.returns-then-branch-clause-stored
returns-then-branch-clause-stored c = search rules

pub returns-clause-stored : goal.returns-clause-stored
returns-clause-stored c = search rules
