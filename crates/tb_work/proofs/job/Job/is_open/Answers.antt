use Rattle.std.proofs.Common.{◌∙◌, ap}
use Rattle.tb_work.proofs.Words.{chunks, is_open}
use Rattle.tb_work.proofs.Jobs.{is_open-chunk}
use Rattle.tb_work.proofs.job.Job.is_open.Goals as goal

pub returns-in-Some : goal.returns-in-Some
returns-in-Some c =
    let packet = c.packet-packet.result.now in
    c.is_last_linked.ensures ∙ is_open-chunk packet.operation packet.bytes c.in-Some.chunk.now _
    (c.as_chunks.ensures.front ∙ ap (chunks 128) c.as_slice.ensures) c.in-Some.ensures.value
    ∙ ap is_open c.packet-packet.ensures.packet
