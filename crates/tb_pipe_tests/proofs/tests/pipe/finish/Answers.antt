use Rattle.tb_submit.specs.clauses.Ends.{queued_by}
use Rattle.tb_pipe_tests.proofs.Together.{is_run}
use Rattle.tb_pipe_tests.proofs.tests.pipe.finish.Goals as goal

pub returns : goal.returns
returns g c =
    let served = c.in_ok-served.ensures in
    let settled = c.settle.ensures in
    let queued = queued_by c.args.ends.submitters.items c.args.ends.control in
    is_run c.args.pipeline c.in_ok-served.served c.settle.result.ledger c.settle.result.ends.items served.start served.intake
    (c.in_ok-served.served.intake.taken, queued, settled.opening, settled.report, settled.grouping)
