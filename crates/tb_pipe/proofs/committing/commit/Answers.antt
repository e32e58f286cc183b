use Rattle.tb_pipe.proofs.Commits.{parcel_more}
use Rattle.tb_pipe.proofs.committing.commit.Goals as goal

pub returns-clause-committed : goal.returns-clause-committed
returns-clause-committed g c = λ start sent has.
    rw c.give_on.ensures.given
    (parcel_more has _ c.apply-outcomes.result (g.L.AnyLedger.is c.apply-outcomes.new.self)
    c.is_last-last.result c.is_last-last.ensures c.apply-outcomes.ensures.applied)
