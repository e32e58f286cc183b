use Rattle.std.proofs.Common.{append_assoc, rules}
use Rattle.tb_machine.proofs.Failures.{failures_from-linked_more}
use Rattle.tb_machine.proofs.report.report_linked.Goals as goal

pub loop-k-preserved : goal.loop-k-preserved
loop-k-preserved c = record {
  items = rw (c.push_reserved.ensures.items, c.loop-k.invariant.items)
      (rw failures_from-linked_more (simp append_assoc));
  len = search rules;
  capacity = search rules;
}
