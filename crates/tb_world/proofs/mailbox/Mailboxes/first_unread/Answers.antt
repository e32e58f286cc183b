-- Found by the prover itself; on file since the check of an edit then costs less.
use Rattle.std.proofs.Common.{rules, arith}
use Rattle.std.proofs.lemmas.Grind.{common_steps}
use Rattle.tb_world.proofs.mailbox.Mailboxes.first_unread.Goals as goal

pub loop-own-init : goal.loop-own-init
loop-own-init c = search rules

pub loop-own-smaller : goal.loop-own-smaller
loop-own-smaller c = search rules

pub loop-own-preserved : goal.loop-own-preserved
loop-own-preserved c = grind (arith, common_steps)
