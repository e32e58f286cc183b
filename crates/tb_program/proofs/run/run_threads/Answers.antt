-- Found by the prover itself; on file since the check of an edit then costs less.
use Rattle.std.proofs.Common.{rules}
use Rattle.tb_program.proofs.run.run_threads.Goals as goal

pub returns-clause-faulty : goal.returns-clause-faulty
returns-clause-faulty g c = search rules

pub returns-in_err-output-clause-read : goal.returns-in_err-output-clause-read
returns-in_err-output-clause-read g c = search rules
