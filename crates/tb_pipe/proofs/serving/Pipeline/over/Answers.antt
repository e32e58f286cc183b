use Rattle.std.proofs.Common.{◌∙◌, subst, sym}
use Rattle.tb_pipe.proofs.Fresh.{fresh_committed}
use Rattle.tb_pipe.proofs.serving.Pipeline.over.Goals as goal

pub invariant_of-result : goal.invariant_of-result
invariant_of-result g c =
    let is = c.self.invariant in
    let same = c.over.ensures in
    let may_be = g.M.AnyLedger.is in
    record {
      ready = record {
        batched = rw (same.front.0, same.front.1, same.front.2) is.ready.batched;
        committed = λ start began.
            let now = subst (λ ledger. may_be ledger start) same.start began in
            rw (same.rings.0, same.rings.1, same.ledger, is.unserved.0, is.unserved.1) (fresh_committed now
            (c.stopped.ensures.begins start now (sym (c.stopped.ensures.stopped start now) ∙ c.if-stopped.false))
            (c.stopped.ensures.joined start));
        replies = rw same.back is.ready.replies;
      };
      unserved = rw (same.rings.0, same.rings.1) is.unserved;
      rings = rw (same.front.2, same.rings.0, same.rings.1, same.back) is.rings;
      number = rw (same.front.0, same.back) is.number;
    }
