-- Found by the prover itself; on file since the check of an edit then costs less.
use Rattle.std.proofs.Common.{rules}
use Rattle.tb_program_text.proofs.ending.Ending.status.Goals as goal

pub returns-in-NotAllCommitted : goal.returns-in-NotAllCommitted
returns-in-NotAllCommitted c = search rules

pub returns-in-NotAllCommitted-2 : goal.returns-in-NotAllCommitted-2
returns-in-NotAllCommitted-2 c = search rules
