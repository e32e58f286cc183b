-- What taking one ticket says of a front.
use Rattle.std.specs.Prelude.{◌≡◌, Bool, false, List, [], ◌∷◌, ◌++◌}
use Rattle.tb_work.specs.declared.item.Item.{Item}
use Rattle.tb_work.specs.declared.item.Ticket.{Ticket}
use Rattle.tb_core.specs.claim.Decision.{Decision, AreDecisions, decisions_of_item}
use Rattle.tb_core.specs.claim.Front.{FrontState, Taken, KnowsEnds, all_decisions_in, held_by, take_step}
use Rattle.tb_core.specs.claim.Grouping.{AreJoinedParcels}

-- A front took a ticket, for whose packet there was no memory if it is refused. What it yields and then holds is what it held, followed
-- by the decision on the ticket. So of a queue of which it had decided it has now decided one ticket more.
pub record HasTakenOne (refused : Bool) (front : FrontState) (ticket : Ticket) (taken : Taken) : Type 0 where
  pub took : taken ≡ take_step refused front ticket.sender ticket.item
  pub accounted : all_decisions_in taken.parcels ++ held_by taken.front
      ≡ held_by front ++ decisions_of_item front.closed taken.front.stopped ticket.item
  pub passes : (items : List Item) (sent : List Decision)
      → AreDecisions items front.closed front.stopped (sent ++ held_by front)
      → AreDecisions (items ++ ticket.item ∷ []) taken.front.closed taken.front.stopped
      ((sent ++ all_decisions_in taken.parcels) ++ held_by taken.front)
  pub lawful : AreJoinedParcels front.limit taken.parcels
  pub ends : (queue : List Ticket) → KnowsEnds queue front → KnowsEnds (queue ++ ticket ∷ []) taken.front
  pub same : (taken.front.limit ≡ front.limit) × (taken.front.submitters ≡ front.submitters)
  pub goes_on : refused ≡ false → front.stopped ≡ false → taken.front.stopped ≡ false
