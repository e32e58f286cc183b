use Rattle.tb_core.proofs.TicketDecisions.{has_taken}
use Rattle.tb_core.proofs.front.Front.take_into.Goals as goal

pub returns : goal.returns
returns c =
    let took = c.step.ensures.took in
    (took.0, has_taken took.0 c.args.self.now c.args.ticket _ c.step.ensures.front c.requires.sender took.1)
