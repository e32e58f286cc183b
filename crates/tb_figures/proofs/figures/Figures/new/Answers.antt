-- Found by the prover itself; on file since the check of an edit then costs less.
use Rattle.std.proofs.Common.{rules}
use Rattle.tb_figures.proofs.figures.Figures.new.Goals as goal

pub returns-in_err-submitters : goal.returns-in_err-submitters
returns-in_err-submitters c = search rules

pub returns-in_err-new : goal.returns-in_err-new
returns-in_err-new c = search rules

pub returns : goal.returns
returns c = search rules
