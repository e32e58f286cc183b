use Rattle.std.proofs.Common.{rules, ap, ◌∙◌, map}
use Rattle.tb_submit.proofs.Words.{origin_of}
use Rattle.tb_submit.proofs.OpenedSubmitters.{origins_back}
use Rattle.tb_submit.proofs.ends.open_ends.Goals as goal

pub returns-clause-submitters : goal.returns-clause-submitters
returns-clause-submitters c = search rules

pub returns-clause-own : goal.returns-clause-own
returns-clause-own c = ap (map origin_of) (returns-clause-submitters c) ∙ origins_back c.args.credit _
