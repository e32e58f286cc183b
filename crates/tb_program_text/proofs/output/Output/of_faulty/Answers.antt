-- Found by the prover itself; on file since the check of an edit then costs less.
use Rattle.std.proofs.Common.{rules}
use Rattle.tb_program_text.proofs.output.Output.of_faulty.Goals as goal

pub returns-clause-faultless : goal.returns-clause-faultless
returns-clause-faultless c = search rules
