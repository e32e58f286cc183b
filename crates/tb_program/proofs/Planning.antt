-- What a plan queues, and the place after it.
use Rattle.std.proofs.Common.{◌≡◌, ◌∙◌, ℕ, ◌+◌, Bool, true, false, List, [], ◌∷◌, ◌++◌, length, refl, ap, sym}
use Rattle.tb_program.proofs.Words.{if◌then◌else◌, Result, Ok, Err, IsOk, length-append, place_after, Place, Ahead, Behind, next_place, Item, Refusal, numbered_packet, PlanState, with_planned, number_in, with_packet}
use Rattle.tb_program.specs.declared.list.listing.Line.TheVariants as line
use Rattle.tb_work.specs.declared.item.Item.TheVariants.{Packet, Close}
use Rattle.tb_work.specs.declared.packet.Packet as packets

-- an admitted packet is queued
pub queued : (plan : PlanState) (submitter : ℕ) (packet : packets.Packet) (admission : Result ℕ Refusal) → IsOk admission
    → with_packet plan submitter packet admission
    ≡ with_planned plan (Packet (numbered_packet submitter (number_in submitter plan.queue) packet) ∷ []) (line.Packet ∷ [])
queued plan submitter packet (Ok count) is = refl
queued plan submitter packet (Err refusal) is = cc

pub place_after_next : (place : Place) (items : List Item) (item : Item)
    → place_after place (items ++ item ∷ []) ≡ next_place (place_after place items) item
place_after_next place [] item = refl
place_after_next place (first ∷ items) item = place_after_next (next_place place first) items item

-- a packet or a pulse takes a place, unless it is behind the Close
pub one_further : (closed : Bool) (items : List Item) (item : Item) → ((k : ℕ) → next_place (Ahead k) item ≡ Ahead (k + 1))
    → place_after (Ahead 0) items ≡ (if closed then Behind else Ahead (length items))
    → place_after (Ahead 0) (items ++ item ∷ []) ≡ (if closed then Behind else Ahead (length (items ++ item ∷ [])))
one_further true items item takes is = place_after_next (Ahead 0) items item ∙ ap (λ place. next_place place item) is
one_further false items item takes is =
    place_after_next (Ahead 0) items item ∙ ap (λ place. next_place place item) is ∙ takes (length items)
    ∙ ap Ahead (sym (length-append items (item ∷ [])))

pub behind_the_close : (place : Place) → next_place place Close ≡ Behind
behind_the_close (Ahead k) = refl
behind_the_close Behind = refl
