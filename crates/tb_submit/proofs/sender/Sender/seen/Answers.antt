use Rattle.tb_submit.proofs.RuleSteps.{witnessed}
use Rattle.tb_submit.proofs.sender.Sender.seen.Goals as goal

pub another-requires-clause-rule : goal.another-requires-clause-rule
another-requires-clause-rule c = λ items views h at. witnessed h _ at
