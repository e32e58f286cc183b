use Rattle.std.proofs.Common.{◌≡◌}
use Rattle.tb_blocking.proofs.client.Client.end.Given as goal

abbrev pub invariant-loop : goal.invariant-loop
invariant-loop g l = l.submitter ≡ l.fn.self
