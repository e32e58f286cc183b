-- Found by the prover itself; on file since the check of an edit then costs less.
use Rattle.std.proofs.Common.{rules}
use Rattle.tb_drive.proofs.controlling.end_control.Goals as goal

pub returns-in-Ok : goal.returns-in-Ok
returns-in-Ok g c = search rules

pub returns-then-give_up : goal.returns-then-give_up
returns-then-give_up g c = search rules
