-- Found by the prover itself; on file since the check of an edit then costs less.
use Rattle.std.proofs.Common.{rules}
use Rattle.tb_program_text.proofs.output.write_bytes.Goals as goal

pub returns-clause-written : goal.returns-clause-written
returns-clause-written c = search rules
