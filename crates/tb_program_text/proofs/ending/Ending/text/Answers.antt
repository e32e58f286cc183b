-- Found by the prover itself; on file since the check of an edit then costs less.
use Rattle.std.proofs.Common.{rules}
use Rattle.tb_program_text.proofs.ending.Ending.text.Goals as goal

pub returns-in-Failed-Write : goal.returns-in-Failed-Write
returns-in-Failed-Write c = search rules

pub returns-in-Failed-Read : goal.returns-in-Failed-Read
returns-in-Failed-Read c = search rules
