use Rattle.std.proofs.Common.{◌≡◌}
use Rattle.tb_drive.proofs.controlling.pulse.Given as goal

abbrev pub invariant-loop : goal.invariant-loop
invariant-loop g l = (l.control ≡ l.initial.control) × (l.driver ≡ l.initial.driver)
