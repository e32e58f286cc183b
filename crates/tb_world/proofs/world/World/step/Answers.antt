-- Found by the prover itself; on file since the check of an edit then costs less.
use Rattle.std.proofs.Common.{rules}
use Rattle.tb_world.proofs.world.World.step.Goals as goal

pub returns-in-Push-clause-ok : goal.returns-in-Push-clause-ok
returns-in-Push-clause-ok c = search rules

pub returns-in-Pop-clause-ok : goal.returns-in-Pop-clause-ok
returns-in-Pop-clause-ok c = search rules

pub returns-in-BatchPush-clause-ok : goal.returns-in-BatchPush-clause-ok
returns-in-BatchPush-clause-ok c = search rules

pub returns-in-BatchPop-clause-ok : goal.returns-in-BatchPop-clause-ok
returns-in-BatchPop-clause-ok c = search rules

pub returns-in-OutcomePush-clause-ok : goal.returns-in-OutcomePush-clause-ok
returns-in-OutcomePush-clause-ok c = search rules

pub returns-in-OutcomePop-clause-ok : goal.returns-in-OutcomePop-clause-ok
returns-in-OutcomePop-clause-ok c = search rules

pub returns-in-ReplyPush-clause-ok : goal.returns-in-ReplyPush-clause-ok
returns-in-ReplyPush-clause-ok c = search rules

pub returns-in-ReplyPop-clause-ok : goal.returns-in-ReplyPop-clause-ok
returns-in-ReplyPop-clause-ok c = search rules
