-- Found by the prover itself; on file since the check of an edit then costs less.
use Rattle.std.proofs.Common.{rules}
use Rattle.tb_embed.proofs.unread.begin.Goals as goal

pub returns-in-Cut-clause-replies : goal.returns-in-Cut-clause-replies
returns-in-Cut-clause-replies c = search rules

pub returns-in-One-clause-replies : goal.returns-in-One-clause-replies
returns-in-One-clause-replies c = search rules

pub returns-in-Nothing-clause-replies : goal.returns-in-Nothing-clause-replies
returns-in-Nothing-clause-replies c = search rules
