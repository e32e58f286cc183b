-- Found by the prover itself; on file since the check then costs less.
use Rattle.std.proofs.Common.{arith, rules}
use Rattle.tb_pipe.proofs.Words.{common_steps}
use Rattle.tb_pipe.proofs.routing.route_all.Goals as goal

pub returns-in-Nothing-clause-last : goal.returns-in-Nothing-clause-last
returns-in-Nothing-clause-last c = search rules

pub loop-reply-preserved : goal.loop-reply-preserved
loop-reply-preserved g c = grind (arith, common_steps)
