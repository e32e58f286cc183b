use Rattle.std.proofs.Common.{◌∙◌, ap, rules}
use Rattle.tb_pipe.proofs.Words.{PipelineState}
use Rattle.tb_pipe.proofs.Origins.{served_is}
use Rattle.tb_pipe.proofs.serving.Pipeline.serve.Goals as goal

pub returns-in-Ok-clause-submitters : goal.returns-in-Ok-clause-submitters
returns-in-Ok-clause-submitters g c =
    (served_is c.self.invariant c.in-Ok.ensures.1.0).submitters ∙ ap (λ (p : PipelineState _). p.submitters) c.self.view_is

pub invariant_of-result : goal.invariant_of-result
invariant_of-result g c = (served_is c.self.invariant c.in-Ok.ensures.1.0).served

pub returns-then-not-begin-clause-refused : goal.returns-then-not-begin-clause-refused
returns-then-not-begin-clause-refused g c = search rules

pub returns-in-Ok-clause-refused : goal.returns-in-Ok-clause-refused
returns-in-Ok-clause-refused g c = search rules

pub returns-in-Err-clause-refused : goal.returns-in-Err-clause-refused
returns-in-Err-clause-refused g c = search rules
