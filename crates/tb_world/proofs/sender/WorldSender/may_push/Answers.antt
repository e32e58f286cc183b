-- Found by the prover itself; on file since the check of an edit then costs less.
use Rattle.std.proofs.Common.{rules}
use Rattle.tb_world.proofs.sender.WorldSender.may_push.Goals as goal

pub returns-then-from-self : goal.returns-then-from-self
returns-then-from-self c = search rules
