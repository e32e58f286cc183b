use Rattle.std.proofs.Common.{◌∙◌, refl}
use Rattle.tb_pipe.proofs.Fresh.{fresh_committed}
use Rattle.tb_pipe.proofs.serving.Pipeline.with_ledger.Goals as goal

pub invariant_of-result : goal.invariant_of-result
invariant_of-result c =
    let is = c.self.invariant in
    record {
      ready = record {
        batched = is.ready.batched;
        committed = λ start began. rw (began ∙ c.begin.ensures.start, is.unserved.0, is.unserved.1)
            (fresh_committed refl (c.begin.ensures.commits c.requires) c.begin.ensures.joined);
        replies = is.ready.replies;
      };
      unserved = is.unserved;
      rings = is.rings;
      number = is.number;
    }
