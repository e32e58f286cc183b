-- Found by the prover itself; on file since the check of an edit then costs less.
use Rattle.std.proofs.Common.{rules}
use Rattle.tb_world.proofs.world.World.into_ledger.Goals as goal

pub returns-then-not-is_at_rest-clause-ledger : goal.returns-then-not-is_at_rest-clause-ledger
returns-then-not-is_at_rest-clause-ledger c = search rules

pub returns-then-not-is_at_rest-clause-rest : goal.returns-then-not-is_at_rest-clause-rest
returns-then-not-is_at_rest-clause-rest c = search rules

pub returns-clause-ledger : goal.returns-clause-ledger
returns-clause-ledger c = search rules

pub returns-clause-rest : goal.returns-clause-rest
returns-clause-rest c = search rules

pub returns-clause-left : goal.returns-clause-left
returns-clause-left c = search rules
