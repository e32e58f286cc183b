use Rattle.tb_drive.proofs.Pulsed.{queued_next, refused_next}
use Rattle.tb_drive.proofs.plan.PlanDriverControlDriver.pulsed.Goals as goal

pub returns-then-is_err-clause-refused : goal.returns-then-is_err-clause-refused
returns-then-is_err-clause-refused c = λ first moment items asked response refused.
    refused_next first c.args.self.now moment items asked _ c.saturating_add-self.ensures refused

pub returns-else-is_err-clause-queued : goal.returns-else-is_err-clause-queued
returns-else-is_err-clause-queued c = λ first moment items asked response queued.
    queued_next first c.args.self.now moment items asked queued
