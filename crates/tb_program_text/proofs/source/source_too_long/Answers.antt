-- Found by the prover itself; on file since the check of an edit then costs less.
use Rattle.std.proofs.Common.{rules}
use Rattle.tb_program_text.proofs.source.source_too_long.Goals as goal

pub returns-in_err-remark : goal.returns-in_err-remark
returns-in_err-remark c = search rules

pub returns : goal.returns
returns c = search rules
