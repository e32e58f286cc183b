-- Found by the prover itself; on file since the check of an edit then costs less.
use Rattle.std.proofs.Common.{rules}
use Rattle.tb_pipe.proofs.batching.BatchRing.give.Goals as goal

pub returns-then-counts-clause-given : goal.returns-then-counts-clause-given
returns-then-counts-clause-given g c = search rules

pub returns-else-counts-clause-given : goal.returns-else-counts-clause-given
returns-else-counts-clause-given g c = search rules

pub returns-then-counts-clause-counted : goal.returns-then-counts-clause-counted
returns-then-counts-clause-counted g c = search rules

pub returns-else-counts-clause-counted : goal.returns-else-counts-clause-counted
returns-else-counts-clause-counted g c = search rules
