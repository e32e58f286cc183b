-- Found by the prover itself; on file since the check of an edit then costs less.
use Rattle.std.proofs.Common.{rules}
use Rattle.tb_durable.proofs.reading.write_settings.Goals as goal

pub returns-in-Err-clause-rows : goal.returns-in-Err-clause-rows
returns-in-Err-clause-rows g c = search rules

pub returns-in-Err-clause-opens : goal.returns-in-Err-clause-opens
returns-in-Err-clause-opens g c = search rules

pub returns-in-Err-clause-crash : goal.returns-in-Err-clause-crash
returns-in-Err-clause-crash g c = search rules

pub returns-in_err-read_first-clause-rows : goal.returns-in_err-read_first-clause-rows
returns-in_err-read_first-clause-rows g c = search rules

pub returns-in_err-read_first-clause-opens : goal.returns-in_err-read_first-clause-opens
returns-in_err-read_first-clause-opens g c = search rules

pub returns-in_err-read_first-clause-crash : goal.returns-in_err-read_first-clause-crash
returns-in_err-read_first-clause-crash g c = search rules

pub returns-then-not-branch-clause-rows : goal.returns-then-not-branch-clause-rows
returns-then-not-branch-clause-rows g c = search rules

pub returns-then-not-branch-clause-crash : goal.returns-then-not-branch-clause-crash
returns-then-not-branch-clause-crash g c = search rules

pub returns-clause-rows : goal.returns-clause-rows
returns-clause-rows g c = search rules

pub returns-clause-opens : goal.returns-clause-opens
returns-clause-opens g c = search rules

pub returns-clause-crash : goal.returns-clause-crash
returns-clause-crash g c = search rules
