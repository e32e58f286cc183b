-- Found by the prover itself; on file since the check of an edit then costs less.
use Rattle.std.proofs.Common.{rules}
use Rattle.tb_program.proofs.run.over.lines_of.Goals as goal

pub returns-in_err-put_all_packets-clause-text : goal.returns-in_err-put_all_packets-clause-text
returns-in_err-put_all_packets-clause-text c = search rules

pub returns-clause-text : goal.returns-clause-text
returns-clause-text c = search rules
