-- Found by the prover itself; on file since the check of an edit then costs less.
use Rattle.std.proofs.Common.{rules}
use Rattle.tb_world.proofs.world.World.batch_push.Goals as goal

pub returns-then-not-has_parcel-clause-ok : goal.returns-then-not-has_parcel-clause-ok
returns-then-not-has_parcel-clause-ok c = search rules

pub invariant_of-self : goal.invariant_of-self
invariant_of-self c = search rules

pub returns-in_err-reserve-clause-err : goal.returns-in_err-reserve-clause-err
returns-in_err-reserve-clause-err c = search rules

pub invariant_of-self-in-Some : goal.invariant_of-self-in-Some
invariant_of-self-in-Some c = search rules

pub returns-in-Some-clause-ok : goal.returns-in-Some-clause-ok
returns-in-Some-clause-ok c = search rules

pub invariant_of-self-in-Some-idle : goal.invariant_of-self-in-Some-idle
invariant_of-self-in-Some-idle c = search rules

pub returns-in-Some-idle-clause-ok : goal.returns-in-Some-idle-clause-ok
returns-in-Some-idle-clause-ok c = search rules

pub invariant_of-self-2 : goal.invariant_of-self-2
invariant_of-self-2 c = search rules

pub returns-clause-ok : goal.returns-clause-ok
returns-clause-ok c = search rules

pub returns-clause-err : goal.returns-clause-err
returns-clause-err c = search rules
