-- Found by the prover itself; on file since the check of an edit then costs less.
use Rattle.std.proofs.Common.{rules}
use Rattle.tb_program_text.proofs.ending.Ending.remark.Goals as goal

pub returns-in-Usage : goal.returns-in-Usage
returns-in-Usage c = search rules

pub returns-in-Failed-Read : goal.returns-in-Failed-Read
returns-in-Failed-Read c = search rules

pub returns-in-Failed-Write : goal.returns-in-Failed-Write
returns-in-Failed-Write c = search rules

pub returns-in-Failed-NoMemory : goal.returns-in-Failed-NoMemory
returns-in-Failed-NoMemory c = search rules

pub returns-in-Failed-NoThread : goal.returns-in-Failed-NoThread
returns-in-Failed-NoThread c = search rules

pub returns-in-Done : goal.returns-in-Done
returns-in-Done c = search rules
