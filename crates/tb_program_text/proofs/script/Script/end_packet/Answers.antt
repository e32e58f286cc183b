-- Found by the prover itself; on file since the check of an edit then costs less.
use Rattle.std.proofs.Common.{rules}
use Rattle.tb_program_text.proofs.script.Script.end_packet.Goals as goal

pub returns-in_err-push : goal.returns-in_err-push
returns-in_err-push c = search rules

pub returns-in_ok-push : goal.returns-in_ok-push
returns-in_ok-push c = search rules

pub returns-in_default : goal.returns-in_default
returns-in_default c = search rules
