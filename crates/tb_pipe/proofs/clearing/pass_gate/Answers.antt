-- Found by the prover itself; on file since the check of an edit then costs less.
use Rattle.std.proofs.Common.{rules}
use Rattle.tb_pipe.proofs.clearing.pass_gate.Goals as goal

pub returns-then-is_batch-clause-through : goal.returns-then-is_batch-clause-through
returns-then-is_batch-clause-through g c = search rules

pub returns-then-is_batch-clause-next : goal.returns-then-is_batch-clause-next
returns-then-is_batch-clause-next g c = search rules

pub returns-else-is_batch-clause-through : goal.returns-else-is_batch-clause-through
returns-else-is_batch-clause-through g c = search rules

pub returns-else-is_batch-clause-next : goal.returns-else-is_batch-clause-next
returns-else-is_batch-clause-next g c = search rules
