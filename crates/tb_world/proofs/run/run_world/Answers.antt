use Rattle.std.proofs.Common.{ℕ, ◌≤◌, List, [], length, arith}
use Rattle.tb_world.proofs.Words.{length-map, items_in, Ticket, new_ledger, Event, new_world, history, HasPlaces}
use Rattle.tb_layout.specs.claim.Bounds.{places_max}
use Rattle.tb_world.proofs.orders.Runs.{length-ahead, length-history}
use Rattle.tb_world.proofs.run.run_world.Goals as goal

places : (clock limit submitters : ℕ) (events : List Event) → length events ≤ places_max
    → HasPlaces (new_ledger clock) (history (new_world clock limit submitters) events)
places clock limit submitters events few =
    let begin = new_world clock limit submitters in
    let queue = history begin events in
    omega (
      arith,
      few,
      length-history begin events,
      length-ahead (items_in queue),
      length-map queue (λ (ticket : Ticket). ticket.item),
    )

pub returns-in_err-go_through-clause-places : goal.returns-in_err-go_through-clause-places
returns-in_err-go_through-clause-places c =
    places c.args.clock c.args.limit c.args.submitters c.args.events.items
    (omega (arith, c.args.events.small, c.args.events.ok))

pub returns-clause-places : goal.returns-clause-places
returns-clause-places c =
    places c.args.clock c.args.limit c.args.submitters c.args.events.items
    (omega (arith, c.args.events.small, c.args.events.ok))

pub returns-clause-ran : goal.returns-clause-ran
returns-clause-ran c =
    c.in_ok-go_through.ensures.ran (new_ledger c.args.clock) c.args.limit c.args.submitters [] c.in-Ok.ensures.ran
