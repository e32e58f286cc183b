-- Found by the prover itself; on file since the check of an edit then costs less.
use Rattle.std.proofs.Common.{arith, rules}
use Rattle.std.proofs.lemmas.Grind.{common_steps}
use Rattle.tb_blocking.proofs.client.Client.receive.Goals as goal

pub loop-preserved : goal.loop-preserved
loop-preserved g c = grind (arith, common_steps)

pub returns-in-Some-reply-clause-idle : goal.returns-in-Some-reply-clause-idle
returns-in-Some-reply-clause-idle g c = search rules

pub returns-in-Some-reply-clause-known : goal.returns-in-Some-reply-clause-known
returns-in-Some-reply-clause-known g c = search rules

pub returns-in-Some-reply-clause-some : goal.returns-in-Some-reply-clause-some
returns-in-Some-reply-clause-some g c = search rules

pub returns-then-is_given_up-clause-known : goal.returns-then-is_given_up-clause-known
returns-then-is_given_up-clause-known g c = search rules

pub returns-then-is_given_up-clause-none : goal.returns-then-is_given_up-clause-none
returns-then-is_given_up-clause-none g c = grind (arith, common_steps)
