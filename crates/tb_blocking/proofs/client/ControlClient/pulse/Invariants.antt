use Rattle.std.proofs.Common.{◌≡◌}
use Rattle.tb_blocking.proofs.client.ControlClient.pulse.Given as goal

abbrev pub invariant-loop : goal.invariant-loop
invariant-loop g l = l.self-inside.control ≡ l.fn.self
