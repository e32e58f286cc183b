use Rattle.std.proofs.Common.{◌≡◌, replicate}
use Rattle.tb_world.proofs.Words.{empty_mailbox}
use Rattle.tb_world.proofs.mailbox.Mailboxes.new.Given as goal

abbrev pub invariant-loop : goal.invariant-loop
invariant-loop l = l.mailboxes.items ≡ replicate l.counter empty_mailbox
