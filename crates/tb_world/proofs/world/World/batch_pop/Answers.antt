-- Found by the prover itself; on file since the check of an edit then costs less.
use Rattle.std.proofs.Common.{rules}
use Rattle.tb_world.proofs.world.World.batch_pop.Goals as goal

pub returns-then-is_some-clause-ok : goal.returns-then-is_some-clause-ok
returns-then-is_some-clause-ok c = search rules

pub invariant_of-self : goal.invariant_of-self
invariant_of-self c = search rules

pub returns-in_default-clause-ok : goal.returns-in_default-clause-ok
returns-in_default-clause-ok c = search rules

pub invariant_of-self-then-refused : goal.invariant_of-self-then-refused
invariant_of-self-then-refused c = search rules

pub returns-then-refused-clause-ok : goal.returns-then-refused-clause-ok
returns-then-refused-clause-ok c = search rules

pub invariant_of-self-in-Ok : goal.invariant_of-self-in-Ok
invariant_of-self-in-Ok c = search rules

pub invariant_of-self-in-Err : goal.invariant_of-self-in-Err
invariant_of-self-in-Err c = search rules

pub returns-in-Ok-clause-ok : goal.returns-in-Ok-clause-ok
returns-in-Ok-clause-ok c = search rules

pub returns-in-Err-clause-err : goal.returns-in-Err-clause-err
returns-in-Err-clause-err c = search rules
