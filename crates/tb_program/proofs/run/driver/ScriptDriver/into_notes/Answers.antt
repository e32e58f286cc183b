-- Found by the prover itself; on file since the check of an edit then costs less.
use Rattle.std.proofs.Common.{rules, arith}
use Rattle.std.proofs.lemmas.Grind.{common_steps}
use Rattle.tb_program.proofs.run.driver.ScriptDriver.into_notes.Goals as goal

pub returns-then-not-self-clause-done : goal.returns-then-not-self-clause-done
returns-then-not-self-clause-done c = search rules

pub returns-clause-done : goal.returns-clause-done
returns-clause-done c = grind (arith, common_steps)
