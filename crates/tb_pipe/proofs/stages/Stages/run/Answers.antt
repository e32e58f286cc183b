use Rattle.std.proofs.Common.{ap, refl, rules, ◌∙◌}
use Rattle.tb_pipe.proofs.Words.{outlet_ring}
use Rattle.tb_pipe.proofs.stages.Stages.run.Goals as goal

pub returns-in_default-start_demultiplexer-clause-refused : goal.returns-in_default-start_demultiplexer-clause-refused
returns-in_default-start_demultiplexer-clause-refused g c = search rules

pub returns-clause-served : goal.returns-clause-served
returns-clause-served g c =
    let committed = rw c.in-Some.ensures at c.join-2.ensures in
    let routed = rw c.in-Some-start_demultiplexer.ensures at c.join-3.ensures in
    record {
      rings = (
        ap outlet_ring c.into_outlet.ensures ∙ c.batch_all.ensures.ring ∙ ap outlet_ring c.new-ring.ensures,
        committed.0,
        committed.1,
        routed.0,
        routed.1,
      );
      start = refl;
      intake = c.batch_all.ensures.intake;
      batched = rw c.into_outlet.ensures c.batch_all.ensures.all;
      committed = λ start began. committed.2 start (c.requires.committed start began);
      routed = routed.2;
    }

pub returns-in_default-clause-refused : goal.returns-in_default-clause-refused
returns-in_default-clause-refused g c = search rules

pub returns-clause-refused : goal.returns-clause-refused
returns-clause-refused g c = search rules
