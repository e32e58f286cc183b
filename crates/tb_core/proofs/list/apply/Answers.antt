use Rattle.std.proofs.Common.{◌∙◌, sym, subst, false, ◌++◌}
use Rattle.tb_core.proofs.Words.{decisions_in, HasNotStopped, replies_in}
use Rattle.tb_core.proofs.JournalGroups.{is_applied}
use Rattle.tb_core.proofs.list.apply.Goals as goal

pub returns-else-stopped : goal.returns-else-stopped
returns-else-stopped c = λ start limit sent joined is.
    let ledger = c.try_apply.new.self in
    let replies = c.args.replies.now.items in
    let applied = is_applied false c.args.ledger.now ledger c.args.parcel c.in-Ok.outcomes c.try_apply.ensures.some
    c.in-Ok.ensures.ok in
    let more : HasNotStopped start limit (sent ++ decisions_in c.args.parcel) ledger (replies ++ replies_in c.in-Ok.outcomes) =
    record {
      commits = applied.commits start sent replies is.commits;
      unmarked = sym c.stopped.ensures
          ∙ c.if-stopped.false;
      joined = applied.joined start limit is.commits.continues joined is.joined;
    } in
    subst (HasNotStopped start limit (sent ++ decisions_in c.args.parcel) ledger) (sym c.in_ok-put-in-Ok.ensures) more
