-- Found by the prover itself; on file since the check of an edit then costs less.
use Rattle.std.proofs.Common.{rules, arith}
use Rattle.std.proofs.lemmas.Grind.{common_steps}
use Rattle.tb_submit.proofs.ended.Ended.reply.Goals as goal

pub returns-in-Some-eq0-clause-some : goal.returns-in-Some-eq0-clause-some
returns-in-Some-eq0-clause-some c = search rules

pub returns-in-Some-eq0-clause-none : goal.returns-in-Some-eq0-clause-none
returns-in-Some-eq0-clause-none c = grind (arith, common_steps)

pub returns-in-Some-eq0-clause-over : goal.returns-in-Some-eq0-clause-over
returns-in-Some-eq0-clause-over c = search rules

pub returns-in-Some-clause-some : goal.returns-in-Some-clause-some
returns-in-Some-clause-some c = search rules

pub returns-in-Some-clause-none : goal.returns-in-Some-clause-none
returns-in-Some-clause-none c = search rules

pub returns-in-Some-clause-over : goal.returns-in-Some-clause-over
returns-in-Some-clause-over c = search rules

pub returns-in-None-clause-none : goal.returns-in-None-clause-none
returns-in-None-clause-none c = search rules

pub returns-in-None-clause-over : goal.returns-in-None-clause-over
returns-in-None-clause-over c = search rules
