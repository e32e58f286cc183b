use Rattle.tb_pipe_tests.proofs.tests.pipe.reply.reply_to_one.Goals as goal

pub only_reply-reply-requires : goal.only_reply-reply-requires
only_reply-reply-requires g c =
    let queued = c.queue_one-queued.ensures.queued in
    (c.args.packet, c.settle_one-report.ensures c.args.packet queued.0 queued.1)

pub returns : goal.returns
returns g c =
    let queued = c.queue_one-queued.ensures.queued in
    c.only_reply-reply.ensures c.args.packet (c.settle_one-report.ensures c.args.packet queued.0 queued.1)
