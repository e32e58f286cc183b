use Rattle.tb_submit.proofs.RuleSteps.{known}
use Rattle.tb_submit.proofs.reader.Reader.learn.Goals as goal

pub learn_as-requires-clause-rule : goal.learn_as-requires-clause-rule
learn_as-requires-clause-rule c = λ items views h at. known h _ at
