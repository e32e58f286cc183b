use Rattle.std.proofs.Common.{◌++◌}
use Rattle.tb_embed.proofs.Words.{HasSentBy}
use Rattle.tb_embed.proofs.Parcels.{held_taken}
use Rattle.tb_embed.proofs.any_engine.commit_held.Goals as goal

pub returns-clause-taken : goal.returns-clause-taken
returns-clause-taken g c = λ start items read has.
    let front = c.args.front.now in
    let may_be = g.L.AnyLedger.is in
    rw c.seal.ensures.left (held_taken
    (λ limit sent. HasSentBy (may_be c.args.ledger.now) start limit sent (read ++ c.args.unread.now.replies))
    (λ limit sent. HasSentBy (may_be c.apply.new.ledger) start limit sent (read ++ c.apply.new.unread.replies))
    c.seal.ensures.parcel c.seal.ensures.front.group
    (λ sent joined had. c.apply.ensures.sent start front.limit sent read joined had) has)
