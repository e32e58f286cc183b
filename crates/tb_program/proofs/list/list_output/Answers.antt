-- Found by the prover itself; on file since the check of an edit then costs less.
use Rattle.std.proofs.Common.{rules}
use Rattle.tb_program.proofs.list.list_output.Goals as goal

pub returns-in-Script-clause-thread : goal.returns-in-Script-clause-thread
returns-in-Script-clause-thread c = search rules

pub returns-in-Script-clause-output : goal.returns-in-Script-clause-output
returns-in-Script-clause-output c = search rules
