use Rattle.kip.proofs.Refused.{none_to_read}
use Rattle.kip.proofs.calls.peek.Goals as goal

pub returns-in_default : goal.returns-in_default
returns-in_default c =
    none_to_read c.args.head.now c.args.results.now c.args.engine.now c.next_reply.result c.in_default.is c.next_reply.ensures
