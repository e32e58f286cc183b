use Rattle.std.proofs.Common.{refl, false, subst, ◌∙◌, ◌++◌, arith}
use Rattle.tb_core.proofs.Words.{option_to_list, on_ok_weaker, Ticket, take_result, all_decisions_in, AreJoinedParcels}
use Rattle.tb_work.specs.declared.item.Item.TheVariants.{Packet}
use Rattle.tb_core.proofs.TicketDecisions.{has_taken}
use Rattle.tb_core.proofs.list.Listing.packet.Goals as goal

pub returns-in-Ok : goal.returns-in-Ok
returns-in-Ok c = λ start limit items run.
    let ticket : Ticket = record { sender = 0; item = Packet c.args.job } in
    let parcels = option_to_list c.in-Ok.parcel in
    let taken = has_taken false c.args.self.now.front ticket (take_result c.try_packet.new.self parcels)
    c.try_packet.ensures.front (omega arith) c.in-Ok.ensures.ok in
    on_ok_weaker c.apply_if.result
    (λ on. record {
      sent = run.sent ++ all_decisions_in parcels;
      under = taken.same.0 ∙ run.under;
      passed = taken.passes items run.sent run.passed;
      goes_on = on;
      unstopped = taken.goes_on refl run.unstopped;
    })
    (c.apply_if.ensures start limit run.sent (subst (λ n. AreJoinedParcels n parcels) run.under taken.lawful) run.goes_on)
