use Rattle.std.proofs.Common.{refl, false, subst, ◌∙◌, ◌++◌, arith}
use Rattle.tb_core.proofs.Words.{on_ok_weaker, Ticket, take_result, all_decisions_in, AreJoinedParcels}
use Rattle.tb_core.proofs.TicketDecisions.{has_taken}
use Rattle.tb_core.proofs.list.Listing.control.Goals as goal

pub returns-clause-runs : goal.returns-clause-runs
returns-clause-runs c = λ start limit items run.
    let ticket : Ticket = record { sender = 0; item = c.args.item } in
    let parcels = c.try_take-taken.new.parcels.items in
    let taken = has_taken false c.args.self.now.front ticket
    (take_result c.try_take-taken.new.self parcels) c.try_take-taken.ensures.front
    (omega arith) c.in_ok-taken.ensures.ok in
    on_ok_weaker c.apply_all.result
    (λ on. record {
      sent = run.sent ++ all_decisions_in parcels;
      under = taken.same.0
          ∙ run.under;
      passed = taken.passes items run.sent run.passed;
      goes_on = on;
      unstopped =
          taken.goes_on refl run.unstopped;
    })
    (c.apply_all.ensures.applied start limit run.sent
    (subst (λ n. AreJoinedParcels n parcels) run.under taken.lawful) run.goes_on)
