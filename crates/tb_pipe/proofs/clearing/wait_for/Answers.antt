-- Found by the prover itself; on file since the check of an edit then costs less.
use Rattle.std.proofs.Common.{rules}
use Rattle.tb_pipe.proofs.clearing.wait_for.Goals as goal

pub returns-then-may_commit : goal.returns-then-may_commit
returns-then-may_commit g c = search rules
