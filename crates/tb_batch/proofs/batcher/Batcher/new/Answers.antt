-- Found by the prover itself; on file since the check of an edit then costs less.
use Rattle.std.proofs.Common.{rules}
use Rattle.tb_batch.proofs.batcher.Batcher.new.Goals as goal

pub invariant_of-result : goal.invariant_of-result
invariant_of-result c = search rules

pub returns-clause-bounds : goal.returns-clause-bounds
returns-clause-bounds c = search rules

pub returns-then-limit-lt1-clause-lawful : goal.returns-then-limit-lt1-clause-lawful
returns-then-limit-lt1-clause-lawful c = search rules
