use Rattle.std.proofs.Common.{ap, sym}
use Rattle.tb_submit.specs.clauses.Ends.{SenderState}
use Rattle.tb_pipe_tests.proofs.Submitters.{all_of_queue}
use Rattle.tb_pipe_tests.proofs.tests.submit.ahead.opened.Goals as goal

pub returns : goal.returns
returns g c =
    let ends = c.in-Ok.ends in
    all_of_queue ends.intake ends.control 0 ends.outlets.items ends.submitters.items
    (ap (λ (control : SenderState). control.seat.queue) (sym c.in-Ok.ensures.control)) c.in-Ok.ensures.own
