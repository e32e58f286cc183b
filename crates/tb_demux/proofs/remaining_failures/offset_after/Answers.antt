-- Found by the prover itself; on file since the check of an edit then costs less.
use Rattle.std.proofs.Common.{rules}
use Rattle.tb_demux.proofs.remaining_failures.offset_after.Goals as goal

pub returns-in-Some : goal.returns-in-Some
returns-in-Some c = search rules
