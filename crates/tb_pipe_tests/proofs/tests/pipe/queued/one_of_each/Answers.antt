use Rattle.tb_pipe_tests.proofs.Together.{run_as}
use Rattle.tb_pipe_tests.proofs.tests.pipe.queued.one_of_each.Goals as goal

pub returns : goal.returns
returns g c =
    run_as 0 4 16 c.in-Ok.opened.pipeline c.finish_each.result.ledger c.finish_each.result.ends.items
    c.in-Ok.ensures.as_asked c.finish_each.ensures
