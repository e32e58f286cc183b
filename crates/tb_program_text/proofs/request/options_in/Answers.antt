-- Found by the prover itself; on file since the check of an edit then costs less.
use Rattle.std.proofs.Common.{rules}
use Rattle.tb_program_text.proofs.request.options_in.Goals as goal

pub returns-in_err-reading : goal.returns-in_err-reading
returns-in_err-reading c = search rules

pub returns-then-reading : goal.returns-then-reading
returns-then-reading c = search rules

pub returns : goal.returns
returns c = search rules
