-- Found by the prover itself; on file since the check of an edit then costs less.
use Rattle.std.proofs.Common.{rules}
use Rattle.tb_program_text.proofs.request.with_word.Goals as goal

pub returns-then-starts_with : goal.returns-then-starts_with
returns-then-starts_with c = search rules

pub returns-else-eq-3 : goal.returns-else-eq-3
returns-else-eq-3 c = search rules

pub returns : goal.returns
returns c = search rules
