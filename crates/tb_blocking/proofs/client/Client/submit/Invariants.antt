use Rattle.std.proofs.Common.{◌≡◌}
use Rattle.tb_blocking.proofs.client.Client.submit.Given as goal

abbrev pub invariant-loop : goal.invariant-loop
invariant-loop g l = (l.self-inside.submitter ≡ l.fn.self) × (l.packet ≡ l.fn.packet)
