-- Found by the prover itself; on file since the check of an edit then costs less.
use Rattle.std.proofs.Common.{rules}
use Rattle.tb_program_text.proofs.source.read_source.Goals as goal

pub returns-clause-source : goal.returns-clause-source
returns-clause-source c = search rules
