-- Found by the prover itself; on file since the check of an edit then costs less.
use Rattle.std.proofs.Common.{rules}
use Rattle.tb_submit.proofs.ends.check_bounds.Goals as goal

pub returns-then-limit-lt1-clause-opens : goal.returns-then-limit-lt1-clause-opens
returns-then-limit-lt1-clause-opens c = search rules

pub returns-then-limit-lt1-clause-refusal : goal.returns-then-limit-lt1-clause-refusal
returns-then-limit-lt1-clause-refusal c = search rules

pub returns-then-capacity-lt1-clause-opens : goal.returns-then-capacity-lt1-clause-opens
returns-then-capacity-lt1-clause-opens c = search rules

pub returns-then-capacity-lt1-clause-refusal : goal.returns-then-capacity-lt1-clause-refusal
returns-then-capacity-lt1-clause-refusal c = search rules

pub returns-then-submitters-lt1-clause-opens : goal.returns-then-submitters-lt1-clause-opens
returns-then-submitters-lt1-clause-opens c = search rules

pub returns-then-submitters-lt1-clause-refusal : goal.returns-then-submitters-lt1-clause-refusal
returns-then-submitters-lt1-clause-refusal c = search rules

pub returns-clause-opens : goal.returns-clause-opens
returns-clause-opens c = search rules

pub returns-clause-refusal : goal.returns-clause-refusal
returns-clause-refusal c = search rules
