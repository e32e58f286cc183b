-- Found by the prover itself; on file since the check of an edit then costs less.
use Rattle.std.proofs.Common.{arith, rules}
use Rattle.std.proofs.lemmas.Grind.{common_steps}
use Rattle.tb_blocking.proofs.client.Client.exchange.Goals as goal

pub returns-clause-known : goal.returns-clause-known
returns-clause-known g c = grind (arith, common_steps)

pub returns-clause-none : goal.returns-clause-none
returns-clause-none g c = search rules

pub returns-clause-some : goal.returns-clause-some
returns-clause-some g c = search rules
