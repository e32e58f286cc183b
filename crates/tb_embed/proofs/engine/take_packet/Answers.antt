use Rattle.std.proofs.Common.{◌++◌, ◌≡◌, false, rules, subst, sym}
use Rattle.tb_batch.specs.claim.Grouping.{IsGroup}
use Rattle.tb_embed.proofs.Words.{option_to_list, has_taken, take_result, take_step, AreJoinedParcels, HasSent}
use Rattle.tb_embed.proofs.Parcels.{ticket_taken}
use Rattle.tb_embed.proofs.engine.take_packet.Goals as goal

pub returns-in-Ok-clause-taken : goal.returns-in-Ok-clause-taken
returns-in-Ok-clause-taken c = λ start items read has.
    let front = c.args.front.now in
    let step : take_result c.try_packet.new.self (option_to_list c.in_ok-parcel.parcel)
    ≡ take_step false front c.args.ticket.sender c.args.ticket.item = search rules in
    ticket_taken (λ limit sent. HasSent start limit sent c.args.ledger.now (read ++ c.args.unread.now.replies))
    (λ limit sent. HasSent start limit sent c.apply.new.ledger (read ++ c.apply.new.unread.replies))
    c.args.ticket c.try_packet.ensures.front c.requires.sender step
    (λ sent joined had. c.in-Ok.ensures.sent start front.limit sent read joined had) has

pub take_back-requires-clause-group : goal.take_back-requires-clause-group
take_back-requires-clause-group c =
    let front = c.args.front.now in
    let step : take_result c.try_packet.new.self (option_to_list c.in_ok-parcel.parcel)
    ≡ take_step false front c.args.ticket.sender c.args.ticket.item = search rules in
    let taken = has_taken false front c.args.ticket (take_result c.try_packet.new.self (option_to_list c.in_ok-parcel.parcel))
    c.try_packet.ensures.front c.requires.sender step in
    subst (λ limit. IsGroup limit c.in-Err.batch) (sym taken.same.0)
    (subst (λ parcel. AreJoinedParcels front.limit (option_to_list parcel)) c.in-Err.ensures.batch taken.lawful).0
