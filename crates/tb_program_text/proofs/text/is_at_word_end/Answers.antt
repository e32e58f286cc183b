-- Found by the prover itself; on file since the check of an edit then costs less.
use Rattle.std.proofs.Common.{rules}
use Rattle.tb_program_text.proofs.text.is_at_word_end.Goals as goal

pub returns-in-empty : goal.returns-in-empty
returns-in-empty c = search rules
