use Rattle.std.proofs.Common.{◌++◌}
use Rattle.tb_embed.proofs.Words.{HasSent}
use Rattle.tb_embed.proofs.Parcels.{ticket_taken}
use Rattle.tb_embed.proofs.engine.pass.Goals as goal

pub returns-clause-taken : goal.returns-clause-taken
returns-clause-taken c = λ start items read has.
    let front = c.args.front.now in
    ticket_taken (λ limit sent. HasSent start limit sent c.args.ledger.now (read ++ c.args.unread.now.replies))
    (λ limit sent. HasSent start limit sent c.apply.new.ledger (read ++ c.apply.new.unread.replies))
    c.args.ticket c.pass-parcel.ensures.front c.requires.sender c.pass-parcel.ensures.passed
    (λ sent joined had. c.in-Ok.ensures.sent start front.limit sent read joined had) has
