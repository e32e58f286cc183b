use Rattle.std.proofs.Common.{ap, refl}
use Rattle.tb_submit.proofs.Words.{View}
use Rattle.tb_submit.proofs.RuleSteps.{pushed}
use Rattle.tb_submit.proofs.sender.Sender.end.Goals as goal

pub push_as-requires-clause-rule : goal.push_as-requires-clause-rule
push_as-requires-clause-rule g c = (
  (λ items views _ h at. pushed h _ at _ _ (ap (λ (v : View). v.entries) c.self.invariant.1) refl),
  (λ items views h at. tt),
)
