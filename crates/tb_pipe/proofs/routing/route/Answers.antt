-- Found by the prover itself; on file since the check of an edit then costs less.
use Rattle.std.proofs.Common.{rules}
use Rattle.tb_pipe.proofs.routing.route.Goals as goal

pub returns-else-k-len-clause-more : goal.returns-else-k-len-clause-more
returns-else-k-len-clause-more g c = search rules
