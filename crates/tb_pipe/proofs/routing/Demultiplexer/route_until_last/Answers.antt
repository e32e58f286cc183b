-- Found by the prover itself; on file since the check then costs less.
use Rattle.std.proofs.Common.{arith}
use Rattle.tb_pipe.proofs.Words.{common_steps}
use Rattle.tb_pipe.proofs.routing.Demultiplexer.route_until_last.Goals as goal

pub loop-preserved : goal.loop-preserved
loop-preserved g c = grind (arith, common_steps)

pub returns-then-route_all-clause-all : goal.returns-then-route_all-clause-all
returns-then-route_all-clause-all g c = grind (arith, common_steps)
