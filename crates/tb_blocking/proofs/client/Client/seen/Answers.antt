-- Found by the prover itself; on file since the check of an edit then costs less.
use Rattle.std.proofs.Common.{rules}
use Rattle.tb_blocking.proofs.client.Client.seen.Goals as goal

pub returns-clause-same : goal.returns-clause-same
returns-clause-same c = search rules
