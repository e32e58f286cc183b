use Rattle.std.proofs.Common.{sym, ◌∙◌}
use Rattle.crossbeam_queue.proofs.Lists.{set_else}
use Rattle.tb_submit.proofs.RuleSteps.{joined}
use Rattle.tb_submit.proofs.reader.Reader.gather.Goals as goal

pub absorb-requires-clause-rule : goal.absorb-requires-clause-rule
absorb-requires-clause-rule c = λ items views h at two was. joined h at (sym (set_else views _ _ _ two) ∙ was) two
