-- Found by the prover itself; on file since the check of an edit then costs less.
use Rattle.std.proofs.Common.{arith, rules}
use Rattle.tb_machine.proofs.Words.{common_steps}
use Rattle.tb_machine.proofs.commit.commit_first.Goals as goal

pub returns-then-not-is_chunk_linked-clause-count : goal.returns-then-not-is_chunk_linked-clause-count
returns-then-not-is_chunk_linked-clause-count c = grind (arith, common_steps)

pub returns-then-not-is_chunk_linked-clause-committed : goal.returns-then-not-is_chunk_linked-clause-committed
returns-then-not-is_chunk_linked-clause-committed c = search rules

pub returns-in_err-commit_event-clause-count : goal.returns-in_err-commit_event-clause-count
returns-in_err-commit_event-clause-count g c = search rules

pub returns-in_err-commit_chain-clause-count : goal.returns-in_err-commit_chain-clause-count
returns-in_err-commit_chain-clause-count g c = search rules

pub returns-clause-count : goal.returns-clause-count
returns-clause-count g c = search rules
