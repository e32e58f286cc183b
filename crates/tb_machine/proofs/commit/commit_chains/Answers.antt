use Rattle.std.proofs.Common.{rules}
use Rattle.tb_machine.proofs.FirstChain.{left_more_chunks}
use Rattle.tb_machine.proofs.commit.commit_chains.Goals as goal

pub loop-start-preserved : goal.loop-start-preserved
loop-start-preserved g c =
    let within = c.in_ok-count.ensures.within in
    record {
      within = search rules;
      clock = search rules;
      continues = search rules;
      left = rw c.next-start.ensures.index
          (left_more_chunks g.E.CreateEvent.event_of _ c.next-start.ensures.clock c.loop-start-test.true
          c.in_ok-count.ensures.count c.in_ok-count.ensures.committed c.loop-start.invariant.left);
    }
