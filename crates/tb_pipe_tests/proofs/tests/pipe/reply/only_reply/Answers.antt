use Rattle.std.proofs.Common.{◌<◌, ap, arith, length}
use Rattle.tb_pipe_tests.proofs.OnePacket.{is_reply_read, lies_for_one}
use Rattle.tb_pipe_tests.proofs.tests.pipe.reply.only_reply.Goals as goal

pub unreachable-requires-in_default-reply : goal.unreachable-requires-in_default-reply
unreachable-requires-in_default-reply c =
    let lies = lies_for_one c.requires.1 c.pop.new.self.items c.in-Some.ended c.in-Some.ensures.items in
    let some : 0 < length c.in-Some.ended.lying = omega (arith, ap length lies) in
    c.in_default-reply.ensures.known some

pub returns : goal.returns
returns c = λ packet run.
    let lies = lies_for_one run c.pop.new.self.items c.in-Some.ended c.in-Some.ensures.items in
    let some : 0 < length c.in-Some.ended.lying = omega (arith, ap length lies) in
    is_reply_read run c.pop.new.self.items c.in-Some.ended c.in-Some-reply.reply c.reply.new.self.lying c.in-Some.ensures.items
    (c.in-Some-reply.ensures.known some)
