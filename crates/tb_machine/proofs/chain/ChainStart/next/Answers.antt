-- Found by the prover itself; on file since the check of an edit then costs less.
use Rattle.std.proofs.Common.{rules}
use Rattle.tb_machine.proofs.chain.ChainStart.next.Goals as goal

pub returns-clause-clock : goal.returns-clause-clock
returns-clause-clock c = search rules

pub returns-clause-index : goal.returns-clause-index
returns-clause-index c = search rules
