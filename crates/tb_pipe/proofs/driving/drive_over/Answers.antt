use Rattle.std.proofs.Common.{◌∙◌, ap, length, refl, sym}
use Rattle.tb_pipe.proofs.Words.{length-map, IfOk-from_err, origin_of}
use Rattle.tb_pipe.proofs.driving.drive_over.Goals as goal

pub returns-clause-reported : goal.returns-clause-reported
returns-clause-reported g c =
    let control = c.in_ok-tasks.ensures.control in
    rw control at (c.scoped.ensures.1.0 c.args.opened
    (refl, sym c.in_ok-tasks.ensures.submitters, rw control refl))

pub returns-clause-shares : goal.returns-clause-shares
returns-clause-shares g c = rw c.in_ok-tasks.ensures.shares at c.scoped.ensures.1.1

pub returns-in_err-stop-clause-reported : goal.returns-in_err-stop-clause-reported
returns-in_err-stop-clause-reported g c = IfOk-from_err c.from_residual.result _ c.from_residual.ensures.0

pub returns-in_err-stop-clause-shares : goal.returns-in_err-stop-clause-shares
returns-in_err-stop-clause-shares g c = IfOk-from_err c.from_residual.result _ c.from_residual.ensures.0

pub returns-in_err-tasks-clause-reported : goal.returns-in_err-tasks-clause-reported
returns-in_err-tasks-clause-reported g c =
    IfOk-from_err c.from_residual-in_err-tasks.result _ c.from_residual-in_err-tasks.ensures.0

pub returns-in_err-tasks-clause-shares : goal.returns-in_err-tasks-clause-shares
returns-in_err-tasks-clause-shares g c =
    IfOk-from_err c.from_residual-in_err-tasks.result _ c.from_residual-in_err-tasks.ensures.0

pub of-requires-2-clause-number : goal.of-requires-2-clause-number
of-requires-2-clause-number g c = λ _ _.
    c.requires.number ∙ sym (ap length c.requires.together.0) ∙ length-map c.args.opened.submitters.items origin_of

pub of-requires-2-clause-seen : goal.of-requires-2-clause-seen
of-requires-2-clause-seen g c = λ _ _. c.requires.seen

pub of-requires-2-clause-queued : goal.of-requires-2-clause-queued
of-requires-2-clause-queued g c = λ _ _. c.requires.queued
