use Rattle.std.proofs.Common.{true}
use Rattle.tb_core.proofs.TicketDecisions.{has_taken}
use Rattle.tb_core.proofs.front.Front.take_as_refused.Goals as goal

pub returns : goal.returns
returns c =
    has_taken true c.args.self.now c.args.ticket _ c.step_refused.ensures.front c.requires c.step_refused.ensures.took
