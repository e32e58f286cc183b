use Rattle.std.proofs.Common.{sym, subst, ◌++◌, map, append-nil}
use Rattle.tb_core.proofs.Words.{on_ok_weaker, IsGroup, Admitted, HasNotStopped}
use Rattle.tb_core.proofs.ItemList.{through}
use Rattle.tb_core.proofs.list.Listing.finish.Goals as goal

pub returns-in-Some : goal.returns-in-Some
returns-in-Some c = λ start limit items run.
    let held = c.in-Some.ensures.some.0 in
    let now = c.apply.new.ledger in
    let given = c.apply.new.replies.items in
    on_ok_weaker c.apply.result
    (λ on. through run (subst (λ jobs. HasNotStopped start limit (run.sent ++ map Admitted jobs) now given) held on))
    (c.apply.ensures start limit run.sent (subst (IsGroup limit) (sym held)
    (subst (λ n. IsGroup n c.args.self.now.front.held) run.under c.in-Some.ensures.lawful)) run.goes_on)

pub returns-in-None : goal.returns-in-None
returns-in-None c = λ start limit items run.
    through run (rw (c.in-None.ensures.none, append-nil) run.goes_on)
