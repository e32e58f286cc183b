-- Found by the prover itself; on file since the check of an edit then costs less.
use Rattle.std.proofs.Common.{rules}
use Rattle.tb_blocking.proofs.client.Client.end.Goals as goal

pub returns-in-Ok : goal.returns-in-Ok
returns-in-Ok g c = search rules
