use Rattle.std.proofs.Common.{[]}
use Rattle.tb_drive.proofs.Words.{HasQueued}
use Rattle.tb_drive.proofs.controlling.follow.Given as goal

abbrev pub invariant-loop : goal.invariant-loop
invariant-loop g l =
    g.C.ControlDriver.has_queued l.initial.driver l.initial.driver []
    → HasQueued l.initial.control l.control (g.C.ControlDriver.has_queued l.initial.driver l.driver)
