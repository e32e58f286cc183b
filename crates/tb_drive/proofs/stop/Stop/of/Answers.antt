-- Found by the prover itself; on file since the check of an edit then costs less.
use Rattle.std.proofs.Common.{rules}
use Rattle.tb_drive.proofs.stop.Stop.of.Goals as goal

pub returns-in_err-wakers : goal.returns-in_err-wakers
returns-in_err-wakers c = search rules

pub returns-in_err-waker : goal.returns-in_err-waker
returns-in_err-waker c = search rules

pub returns-in_err-push : goal.returns-in_err-push
returns-in_err-push c = search rules

pub returns : goal.returns
returns c = search rules
