use Rattle.std.proofs.Common.{ap, sym, subst, []}
use Rattle.tb_core.proofs.Words.{FrontState, AreWithin, LedgerState, new_ledger, IsListed, Commits, IsDrained}
use Rattle.tb_core.proofs.Runs.{run_is_listed}
use Rattle.tb_core.proofs.list.run_list.Goals as goal

done : (c : goal.After-drop) → IsDrained (new_ledger c.args.clock) c.args.limit c.args.items.items
    c.take_all_and_finish.new.self.ledger c.take_all_and_finish.new.self.replies.items
done c = c.in-Ok-take_all_and_finish.ensures (new_ledger c.args.clock) c.args.limit (record {
  sent = [];
  under = ap (λ (f : FrontState). f.limit) c.in-Ok.ensures.front;
  passed = c.in-Ok.ensures.passes;
  goes_on = record {
    commits = subst (Commits (new_ledger c.args.clock) [] c.new-2.result)
        (sym c.in_ok-replies.ensures.items) c.new-2.ensures.commits;
    unmarked = ap (λ (l : LedgerState). l.stopped) c.new-2.ensures.ledger;
    joined = rw c.new-2.ensures.ledger tt;
  };
  unstopped = ap (λ (f : FrontState). f.stopped) c.in-Ok.ensures.front;
})

listed : (c : goal.After-drop) → IsListed c.args.clock c.args.items.items c.take_all_and_finish.new.self.ledger
    c.take_all_and_finish.new.self.replies.items
listed c =
    run_is_listed c.args.clock c.args.items.items c.take_all_and_finish.new.self.ledger
    c.take_all_and_finish.new.self.replies.items (done c).ran (done c).unmarked (done c).unstopped

pub returns-in-Ok-take_all_and_finish-clause-listed : goal.returns-in-Ok-take_all_and_finish-clause-listed
returns-in-Ok-take_all_and_finish-clause-listed c = listed c

pub returns-in-Ok-take_all_and_finish-clause-ran : goal.returns-in-Ok-take_all_and_finish-clause-ran
returns-in-Ok-take_all_and_finish-clause-ran c = (done c).ran

pub returns-in-Ok-take_all_and_finish-clause-grouping : goal.returns-in-Ok-take_all_and_finish-clause-grouping
returns-in-Ok-take_all_and_finish-clause-grouping c =
    λ within. record {
      joined = (done c).joined;
      within = subst (AreWithin c.args.limit)
          (sym (listed c).committed) within;
    }
