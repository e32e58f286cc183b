-- Found by the prover itself; on file since the check of an edit then costs less.
use Rattle.std.proofs.Common.{rules}
use Rattle.tb_world.proofs.mailbox.Mailbox.take.Goals as goal

pub returns-in-Some-clause-mailbox : goal.returns-in-Some-clause-mailbox
returns-in-Some-clause-mailbox c = search rules
