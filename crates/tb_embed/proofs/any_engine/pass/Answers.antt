use Rattle.std.proofs.Common.{◌++◌}
use Rattle.tb_embed.proofs.Words.{HasSentBy}
use Rattle.tb_embed.proofs.Parcels.{ticket_taken}
use Rattle.tb_embed.proofs.any_engine.pass.Goals as goal

pub returns-clause-taken : goal.returns-clause-taken
returns-clause-taken g c = λ start items read has.
    let front = c.args.front.now in
    let may_be = g.L.AnyLedger.is in
    ticket_taken
    (λ limit sent. HasSentBy (may_be c.args.ledger.now) start limit sent (read ++ c.args.unread.now.replies))
    (λ limit sent. HasSentBy (may_be c.apply.new.ledger) start limit sent (read ++ c.apply.new.unread.replies))
    c.args.ticket c.offer.ensures.front c.requires.sender c.in_ok-parcel.ensures.ok
    (λ sent joined had. c.apply.ensures.sent start front.limit sent read joined had) has
