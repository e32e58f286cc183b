-- Found by the prover itself; on file since the check of an edit then costs less.
use Rattle.std.proofs.Common.{rules}
use Rattle.tb_rings.proofs.Outlet.give.Goals as goal

pub returns-then-is_full-clause-ok : goal.returns-then-is_full-clause-ok
returns-then-is_full-clause-ok c = search rules

pub returns-then-is_full-clause-none_free : goal.returns-then-is_full-clause-none_free
returns-then-is_full-clause-none_free c = search rules
