-- Found by the prover itself, but late; on file since a check then costs less.
use Rattle.std.proofs.Common.{arith}
use Rattle.tb_machine.proofs.Words.{common_steps}
use Rattle.tb_machine.proofs.chain.first_chain_length.Goals as goal

pub loop-index-preserved : goal.loop-index-preserved
loop-index-preserved g c = grind (arith, common_steps)

pub returns-then-not-is_chunk_linked-clause-value : goal.returns-then-not-is_chunk_linked-clause-value
returns-then-not-is_chunk_linked-clause-value g c = grind (arith, common_steps)

pub returns-clause-value : goal.returns-clause-value
returns-clause-value g c = grind (arith, common_steps)
