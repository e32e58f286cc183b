-- Found by the prover itself; on file since the check of an edit then costs less.
use Rattle.std.proofs.Common.{rules}
use Rattle.tb_rings.proofs.Outlet.all_taken.Goals as goal

pub returns-clause-value : goal.returns-clause-value
returns-clause-value c = search rules
