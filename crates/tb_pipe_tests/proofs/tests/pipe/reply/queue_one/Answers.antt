use Rattle.std.proofs.Common.{◌∙◌, arith}
use Rattle.tb_pipe_tests.proofs.OnePacket.{new_one, queued_one}
use Rattle.tb_pipe_tests.proofs.tests.pipe.reply.queue_one.Goals as goal

pub returns-clause-queued : goal.returns-clause-queued
returns-clause-queued g c =
    let opened = c.in-Ok.ensures in
    let first = c.lone_of-lone.result.submitter in
    queued_one c.args.packet first c.queue_and_end-ended.result
    (new_one 64 c.in-Ok.opened.pipeline.intake c.in-Ok.opened.pipeline.submitters first
    (c.lone_of-lone.ensures.1 ∙ opened.submitters) (λ d. opened.seats 0 d (omega arith)))
    c.queue_and_end-ended.ensures
