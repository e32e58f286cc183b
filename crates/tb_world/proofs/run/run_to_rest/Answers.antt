-- Found by the prover itself; on file since the check of an edit then costs less.
use Rattle.std.proofs.Common.{rules}
use Rattle.tb_world.proofs.run.run_to_rest.Goals as goal

pub returns-in_err-world-clause-rested : goal.returns-in_err-world-clause-rested
returns-in_err-world-clause-rested c = search rules

pub returns-in_err-finish-clause-rested : goal.returns-in_err-finish-clause-rested
returns-in_err-finish-clause-rested c = search rules

pub returns-clause-rested : goal.returns-clause-rested
returns-clause-rested c = search rules
