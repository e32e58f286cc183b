use Rattle.tb_core.proofs.BadRuns.{may_stop_at_once, may_pop_the_close_first}
use Rattle.tb_core.proofs.laws.two_bad_runs_remain.Goals as goal

pub returns-clause-stops : goal.returns-clause-stops
returns-clause-stops c = may_stop_at_once

pub returns-clause-closes : goal.returns-clause-closes
returns-clause-closes c = may_pop_the_close_first
