-- Found by the prover itself; on file since the check of an edit then costs less.
use Rattle.std.proofs.Common.{rules}
use Rattle.tb_program_text.specs.clauses.Script.{with_line}
use Rattle.tb_program_text.proofs.script.Script.take_close.Goals as goal

pub returns : goal.returns
unfolding with_line
returns c = search rules
