-- Found by the prover itself; on file since the check of an edit then costs less.
use Rattle.std.proofs.Common.{rules}
use Rattle.tb_program_text.proofs.output.put_outcome.Goals as goal

pub returns-in-Shutdown : goal.returns-in-Shutdown
returns-in-Shutdown c = search rules
