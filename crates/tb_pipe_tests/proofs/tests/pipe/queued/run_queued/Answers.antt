use Rattle.tb_pipe_tests.proofs.Together.{run_as}
use Rattle.tb_pipe_tests.proofs.tests.pipe.queued.run_queued.Goals as goal

pub returns : goal.returns
returns g c =
    run_as 0 4 1 c.open_lone-lone.result.pipeline c.finish_lone.result.ledger c.finish_lone.result.ends.items
    c.open_lone-lone.ensures.as_asked c.finish_lone.ensures
