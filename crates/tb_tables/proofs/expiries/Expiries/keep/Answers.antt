-- Found by the prover itself; on file since the check of an edit then costs less.
use Rattle.std.proofs.Common.{rules}
use Rattle.tb_tables.proofs.expiries.Expiries.keep.Goals as goal

pub loop-popped-init : goal.loop-popped-init
loop-popped-init c = search rules

pub returns-then-not-pop_spent-clause-spent : goal.returns-then-not-pop_spent-clause-spent
returns-then-not-pop_spent-clause-spent c = search rules

pub loop-popped-smaller : goal.loop-popped-smaller
loop-popped-smaller c = search rules

pub loop-popped-preserved : goal.loop-popped-preserved
loop-popped-preserved c = search rules

pub returns-clause-spent : goal.returns-clause-spent
returns-clause-spent c = search rules
