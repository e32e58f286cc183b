use Rattle.std.proofs.Common.{subst, append_assoc, ◌++◌, [], ◌∷◌}
use Rattle.tb_embed.proofs.Words.{option_to_list, all_decisions_in, AreJoinedParcels, replies_in, HasSentBy}
use Rattle.tb_embed.proofs.AnyRun.{parcel_sent}
use Rattle.tb_embed.proofs.any_engine.apply.Goals as goal

pub returns-in-Some-clause-sent : goal.returns-in-Some-clause-sent
returns-in-Some-clause-sent g c = λ start limit sent read joined has.
    let was = g.L.AnyLedger.is c.args.ledger.now in
    let may_be = g.L.AnyLedger.is c.apply-outcomes.new.self in
    let handed = c.in-Some.parcel in
    let given = c.apply-outcomes.result in
    let before = c.args.unread.now.replies in
    rw (c.in-Some.is, c.push.ensures.replies)
    (subst (HasSentBy may_be start limit (sent ++ all_decisions_in (handed ∷ [])))
    (append_assoc read before (replies_in given))
    (parcel_sent was may_be handed given c.apply-outcomes.ensures.applied
    (subst (λ parcel. AreJoinedParcels limit (option_to_list parcel)) c.in-Some.is joined) has))
