use Rattle.std.proofs.Common.{append_assoc, ◌-◌}
use Rattle.tb_machine.proofs.Failures.{failures_from-fault}
use Rattle.tb_machine.proofs.report.report_failed.Goals as goal

pub returns-in-Some-clause-items : goal.returns-in-Some-clause-items
returns-in-Some-clause-items g c =
    let below = rw c.in-Some.is at c.requires.below in
    let fault = c.in-Some.fault in
    let e = failures_from-fault c.args.index fault.index fault.code (c.args.count - fault.index - 1) below.1 in
    rw (
      c.report_linked-in-Some-2.ensures.items,
      c.push_reserved.ensures.items,
      c.report_linked-in-Some.ensures.items,
      c.in-Some.is,
    ) (rw e (simp append_assoc))
