use Rattle.std.proofs.Common.{◌++◌, rules, subst, sym}
use Rattle.tb_batch.specs.claim.Grouping.{IsGroup}
use Rattle.tb_embed.proofs.Words.{HasSent}
use Rattle.tb_embed.proofs.Parcels.{jobs_taken}
use Rattle.tb_embed.proofs.engine.commit_held.Goals as goal

pub returns-in-Ok-clause-taken : goal.returns-in-Ok-clause-taken
returns-in-Ok-clause-taken c = λ start items read has.
    let front = c.args.front.now in
    let held = c.in-Some.ensures.some.0 in
    rw c.take.ensures.left (jobs_taken
    (λ limit sent. HasSent start limit sent c.args.ledger.now (read ++ c.args.unread.now.replies))
    (λ limit sent. HasSent start limit sent c.apply_held.new.ledger (read ++ c.apply_held.new.unread.replies))
    held
    (λ sent had. c.in-Ok.ensures.sent start front.limit sent read (subst (IsGroup front.limit) (sym held) c.take.ensures.front.group) had) has)

pub returns-in-Ok-clause-same : goal.returns-in-Ok-clause-same
returns-in-Ok-clause-same c = search rules

pub returns-in-Err-clause-same : goal.returns-in-Err-clause-same
returns-in-Err-clause-same c = search rules
