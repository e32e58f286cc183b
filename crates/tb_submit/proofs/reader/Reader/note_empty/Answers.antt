use Rattle.tb_submit.proofs.RuleSteps.{noted}
use Rattle.tb_submit.proofs.reader.Reader.note_empty.Goals as goal

pub another-requires-clause-rule : goal.another-requires-clause-rule
another-requires-clause-rule c = λ items views h at. noted h _ at
