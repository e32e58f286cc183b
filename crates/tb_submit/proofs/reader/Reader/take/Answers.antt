use Rattle.std.proofs.Common.{ap, rules}
use Rattle.tb_submit.proofs.Words.{View}
use Rattle.tb_submit.proofs.RuleSteps.{takes}
use Rattle.tb_submit.proofs.reader.Reader.take.Goals as goal

pub pop_as-ticket-requires-clause-rule : goal.pop_as-ticket-requires-clause-rule
pop_as-ticket-requires-clause-rule g c = (takes _ _ (ap (λ (v : View). v.mark) c.self.invariant.1), λ items views h at. tt)

pub returns-then-is_none-clause-some : goal.returns-then-is_none-clause-some
returns-then-is_none-clause-some g c = search rules

pub returns-then-is_none-clause-none : goal.returns-then-is_none-clause-none
returns-then-is_none-clause-none g c = search rules

pub returns-else-is_none-clause-some : goal.returns-else-is_none-clause-some
returns-else-is_none-clause-some g c = search rules

pub returns-else-is_none-clause-none : goal.returns-else-is_none-clause-none
returns-else-is_none-clause-none g c = search rules
