-- Found by the prover itself; on file since the check of an edit then costs less.
use Rattle.std.proofs.Common.{rules}
use Rattle.tb_program_text.specs.clauses.Script.{after_line}
use Rattle.tb_program_text.proofs.script.Script.line.Goals as goal

pub returns : goal.returns
unfolding after_line
returns c = search rules
