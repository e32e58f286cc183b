-- Found by the prover itself; on file since the check of an edit then costs less.
use Rattle.std.proofs.Common.{rules}
use Rattle.tb_tables.proofs.storing.take_expiry_back.Goals as goal

pub returns-then-is_timed-clause-others : goal.returns-then-is_timed-clause-others
returns-then-is_timed-clause-others c = search rules

pub returns-then-is_timed-clause-gone : goal.returns-then-is_timed-clause-gone
returns-then-is_timed-clause-gone c = search rules

pub returns-else-is_timed-clause-others : goal.returns-else-is_timed-clause-others
returns-else-is_timed-clause-others c = search rules

pub returns-else-is_timed-clause-gone : goal.returns-else-is_timed-clause-gone
returns-else-is_timed-clause-gone c = search rules
