use Rattle.tb_submit.proofs.QueuedItems.{pulses_unended}
use Rattle.tb_submit.proofs.control.Control.learn.Goals as goal

pub learn-requires-clause-unended : goal.learn-requires-clause-unended
learn-requires-clause-unended c = pulses_unended c.self.inside.sender.queued c.self.invariant.1
