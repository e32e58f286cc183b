-- Found by the prover itself; on file since the check of an edit then costs less.
use Rattle.std.proofs.Common.{rules}
use Rattle.tb_embed.proofs.engine.apply.Goals as goal

pub returns-in_default-clause-stopped : goal.returns-in_default-clause-stopped
returns-in_default-clause-stopped c = search rules

pub returns-in-Ok-clause-stopped : goal.returns-in-Ok-clause-stopped
returns-in-Ok-clause-stopped c = search rules

pub returns-in-Err-Batch-clause-stopped : goal.returns-in-Err-Batch-clause-stopped
returns-in-Err-Batch-clause-stopped c = search rules
