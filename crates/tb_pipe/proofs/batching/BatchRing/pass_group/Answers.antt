use Rattle.tb_pipe.proofs.Batches.{group_more}
use Rattle.tb_pipe.proofs.batching.BatchRing.pass_group.Goals as goal

pub returns-in-Some-clause-batched : goal.returns-in-Some-clause-batched
returns-in-Some-clause-batched g c = λ intake may is.
    let idle = c.in-Some.ensures in
    rw (c.give.ensures.given, idle.left, idle.some.0) (group_more is idle.some.1 idle.lawful may)
