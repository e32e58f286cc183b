use Rattle.std.proofs.Common.{rules}
use Rattle.tb_submit.proofs.RuleSteps.{begins}
use Rattle.tb_submit.proofs.reader.Reader.new.Goals as goal

pub ruled-requires-clause-rule : goal.ruled-requires-clause-rule
ruled-requires-clause-rule c = begins

pub returns-clause-capacity : goal.returns-clause-capacity
returns-clause-capacity c = search rules
