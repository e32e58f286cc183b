use Rattle.std.proofs.Common.{rules}
use Rattle.tb_work.proofs.Words.{rise_from_0, count_of}
use Rattle.tb_work.proofs.reply.Reply.committed.Goals as goal

pub invariant_of-result : goal.invariant_of-result
invariant_of-result c =
    rw (c.into_parts-packet.ensures.packet, c.from_room.ensures, c.rebase_into.ensures)
    (rise_from_0 c.args.offset (count_of c.args.job.packet) c.args.failures.now c.requires.rise)

pub returns : goal.returns
returns c = search rules
