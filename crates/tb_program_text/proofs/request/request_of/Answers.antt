-- Found by the prover itself; on file since the check of an edit then costs less.
use Rattle.std.proofs.Common.{rules, arith}
use Rattle.std.proofs.lemmas.Grind.{common_steps}
use Rattle.tb_program_text.proofs.request.request_of.Goals as goal

pub returns-in_default : goal.returns-in_default
returns-in_default c = grind (arith, common_steps)

pub returns-then-eq : goal.returns-then-eq
returns-then-eq c = search rules

pub returns-in-Some : goal.returns-in-Some
returns-in-Some c = search rules

pub returns : goal.returns
returns c = search rules
