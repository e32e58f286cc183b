-- What is ahead of the Close.
use Rattle.std.specs.Prelude.{ℕ, ◌==◌, List, [], ◌∷◌, map, filter}
use Rattle.tb_layout.specs.claim.Events.{Input}
use Rattle.tb_layout.specs.claim.Events as input
use Rattle.tb_work.specs.claim.Packet.{input_of}
use Rattle.tb_work.specs.declared.item.Item.{Item}
use Rattle.tb_work.specs.declared.item.Item.TheVariants.{Packet, Pulse, End, Close}
use Rattle.tb_work.specs.declared.item.Ticket.{Ticket}

abbrev pub items_in : List Ticket → List Item
items_in queue = map (λ (ticket : Ticket). ticket.item) queue

abbrev pub items_from : ℕ → List Ticket → List Item
items_from sender queue = items_in (filter (λ (ticket : Ticket). ticket.sender == sender) queue)

-- the packets and pulses that are ahead of the Close
abbrev pub ahead : List Item → List Input
ahead [] = []
ahead (Packet job ∷ items) = input_of job ∷ ahead items
ahead (Pulse moment ∷ items) = input.Pulse moment ∷ ahead items
ahead (End ∷ items) = ahead items
ahead (Close ∷ items) = []
