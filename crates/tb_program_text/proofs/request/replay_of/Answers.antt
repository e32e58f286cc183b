-- Found by the prover itself; on file since the check of an edit then costs less.
use Rattle.std.proofs.Common.{arith}
use Rattle.std.proofs.lemmas.Grind.{common_steps}
use Rattle.tb_program_text.proofs.request.replay_of.Goals as goal

pub returns-in-Some-None : goal.returns-in-Some-None
returns-in-Some-None c = grind (arith, common_steps)

pub returns : goal.returns
returns c = grind (arith, common_steps)
