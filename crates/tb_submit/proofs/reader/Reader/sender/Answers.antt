use Rattle.std.proofs.Common.{ap}
use Rattle.tb_submit.proofs.Words.{View}
use Rattle.tb_submit.proofs.RuleSteps.{forks}
use Rattle.tb_submit.proofs.reader.Reader.sender.Goals as goal

pub another-pass-requires-clause-rule : goal.another-pass-requires-clause-rule
another-pass-requires-clause-rule c = forks _ _ (ap (λ (v : View). v.mark) c.self.invariant.1)
