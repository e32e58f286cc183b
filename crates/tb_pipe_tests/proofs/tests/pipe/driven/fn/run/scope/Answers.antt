use Rattle.tb_submit.specs.clauses.Ends.{queued_by}
use Rattle.tb_pipe_tests.proofs.Together.{is_run}
use Rattle.tb_pipe_tests.proofs.tests.pipe.driven.fn.run.scope.Goals as goal

pub returns : goal.returns
returns g c =
    let served = c.in-Ok-serve.ensures in
    let settled = c.settle.ensures in
    let queued = queued_by c.put.new.ends.items c.join-driven.result.control in
    is_run c.captures.pipeline c.in-Ok-serve.served c.settle.result.ledger c.settle.result.ends.items served.start served.intake
    (c.in-Ok-serve.served.intake.taken, queued, settled.opening, settled.report, settled.grouping)
