-- Found by the prover itself; on file since the check of an edit then costs less.
use Rattle.std.proofs.Common.{rules}
use Rattle.tb_batch.proofs.parts.Parts.append.Goals as goal

pub returns-clause-stubs : goal.returns-clause-stubs
returns-clause-stubs c = search rules

pub returns-clause-body : goal.returns-clause-body
returns-clause-body c = search rules
