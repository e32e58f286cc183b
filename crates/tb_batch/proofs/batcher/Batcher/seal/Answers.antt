-- Found by the prover itself; on file since the check of an edit then costs less.
use Rattle.std.proofs.Common.{rules}
use Rattle.tb_batch.proofs.batcher.Batcher.seal.Goals as goal

pub returns-clause-none : goal.returns-clause-none
returns-clause-none c = search rules
