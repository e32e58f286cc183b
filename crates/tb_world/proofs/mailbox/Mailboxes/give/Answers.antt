-- Found by the prover itself; on file since the check of an edit then costs less.
use Rattle.std.proofs.Common.{arith}
use Rattle.std.proofs.lemmas.Grind.{common_steps}
use Rattle.tb_world.proofs.mailbox.Mailboxes.give.Goals as goal

pub returns-then-submitter-len-clause-ok : goal.returns-then-submitter-len-clause-ok
returns-then-submitter-len-clause-ok c = grind (arith, common_steps)

pub returns-clause-ok : goal.returns-clause-ok
returns-clause-ok c = grind (arith, common_steps)
