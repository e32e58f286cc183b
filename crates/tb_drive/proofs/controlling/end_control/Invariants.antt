use Rattle.std.proofs.Common.{◌≡◌}
use Rattle.tb_drive.proofs.controlling.end_control.Given as goal

abbrev pub invariant-loop : goal.invariant-loop
invariant-loop g l = l.control ≡ l.fn.control
