use Rattle.tb_pipe.proofs.Words.{take_result}
use Rattle.tb_pipe.proofs.Batches.{ticket_more}
use Rattle.tb_pipe.proofs.batching.BatchRing.pass_ticket.Goals as goal

pub returns-clause-batched : goal.returns-clause-batched
returns-clause-batched g c = λ intake unended is.
    rw c.give_all.ensures.given
    (ticket_more is c.args.ticket (take_result c.take_into.new.self c.take_into.new.parcels.items) c.take_into.ensures
    unended)
