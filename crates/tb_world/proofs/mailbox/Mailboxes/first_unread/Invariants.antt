use Rattle.std.proofs.Common.{◌≡◌, sum_by, take}
use Rattle.tb_world.proofs.Words.{unread}
use Rattle.tb_world.proofs.mailbox.Mailboxes.first_unread.Given as goal

abbrev pub invariant-loop-own : goal.invariant-loop-own
invariant-loop-own l = sum_by unread (take l.own l.self-inside.mailboxes.items) ≡ 0
