use Rattle.examples.specs.inside.Ready.{IsReady}
use Rattle.examples.proofs.payments.queue_ahead.Given as goal

abbrev pub invariant-loop-packet : goal.invariant-loop-packet
invariant-loop-packet g l = IsReady l.opened
