use Rattle.std.proofs.Common.{arith}
use Rattle.std.proofs.lemmas.Grind.{common_steps}
use Rattle.tb_figures.proofs.CountLemmas.{split_more}
use Rattle.tb_figures.proofs.counts.Counts.add_batch.Goals as goal

pub loop-stub-preserved : goal.loop-stub-preserved
loop-stub-preserved c = (
  split_more c.args.stubs.now c.loop-stub.stub-index _ c.loop-stub-test.true c.loop-stub.invariant.0
      c.loop-stub.invariant.1 (record {
        others = c.add_stub.ensures.others;
        events = c.add_stub.ensures.events;
        own = c.add_stub.ensures.own;
        unknown = c.add_stub.ensures.unknown;
      }),
  c.add_stub.ensures.long,
)

pub returns : goal.returns
returns c = grind (arith, common_steps)
