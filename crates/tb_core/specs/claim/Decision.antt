-- What becomes of packets and pulses before the state machine; batches are left out.
use Rattle.std.specs.Prelude.{◌≡◌, ℕ, ◌+◌, Bool, true, false, ◌||◌, nat_le, List, [], ◌∷◌, ◌++◌, slice_get, Option, Some, None, is_some, IfSome, if◌then◌else◌}
use Rattle.tb_layout.specs.claim.Events.{Input}
use Rattle.tb_layout.specs.claim.Events as input
use Rattle.tb_work.specs.claim.Packet.{Numbered, ReplyValue, input_of}
use Rattle.tb_work.specs.claim.Answer.{reply_with}
use Rattle.tb_work.specs.claim.Ahead.{ahead}
use Rattle.tb_work.specs.declared.item.Item.{Item}
use Rattle.tb_work.specs.declared.item.Item.TheVariants as item
use Rattle.tb_work.specs.declared.outcome.Outcome.{Outcome}
use Rattle.tb_work.specs.declared.outcome.Outcome.TheVariants as outcome
use Rattle.tb_core.specs.claim.Due.{Place, Ahead, Behind, next_place, outcome_at}
use Rattle.tb_core.specs.declared.parcel.Cause.{Cause}
use Rattle.tb_core.specs.declared.parcel.Cause.TheVariants.{Shutdown, Stopped}

-- a packet is admitted to the state machine, or comes back with its cause
pub data Decision : Type 0 where
  Admitted : Numbered → Decision
  Pulsed : (moment : ℕ) → Decision
  Returned : Numbered → Cause → Decision

-- ---- one item

-- the decision on an item, if a Close was taken before it, or an allocation failed before it or at it
abbrev pub decisions_of_item : Bool → Bool → Item → List Decision
decisions_of_item closed stopped (item.Packet job) =
    (if closed then Returned job Shutdown else if stopped then Returned job Stopped else Admitted job) ∷ []
decisions_of_item closed stopped (item.Pulse moment) = if closed || stopped then [] else Pulsed moment ∷ []
decisions_of_item closed stopped item.End = []
decisions_of_item closed stopped item.Close = []

-- ---- a queue

abbrev pub is_behind : Place → Bool
is_behind (Ahead k) = false
is_behind Behind = true

abbrev pub place_after : Place → List Item → Place
place_after place [] = place
place_after place (item ∷ items) = place_after (next_place place item) items

-- whether an allocation failed before this number of packets and pulses, or at the next one
abbrev pub is_stopped_at : Option ℕ → ℕ → Bool
is_stopped_at None k = false
is_stopped_at (Some through) k = nat_le through k

-- the decision on an item at its place, if exactly this number was let through before an allocation failed, or all were
abbrev pub decisions_at : Option ℕ → Place → Item → List Decision
decisions_at stop (Ahead k) item = decisions_of_item false (is_stopped_at stop k) item
decisions_at stop Behind item = decisions_of_item true (is_some stop) item

abbrev pub decisions_from : Option ℕ → Place → List Item → List Decision
decisions_from stop place [] = []
decisions_from stop place (item ∷ items) =
    decisions_at stop place item ++ decisions_from stop (next_place place item) items

-- the decisions on a queue
abbrev pub decisions_of : Option ℕ → List Item → List Decision
decisions_of stop items = decisions_from stop (Ahead 0) items

abbrev pub IsPacket : Option Input → Type 0
IsPacket None = ⊥
IsPacket (Some (input.Packet submitter number events)) = Unit {0}
IsPacket (Some (input.Pulse moment)) = ⊥

-- The decisions are those of a front on the items. It is closed if a Close is among them. If it stopped, it did so at a
-- packet ahead of the Close, and let through exactly what is before that packet.
pub record AreDecisions (items : List Item) (closed stopped : Bool) (decisions : List Decision) : Type 0 where
  pub stop : Option ℕ
  pub all : decisions ≡ decisions_of stop items
  pub shut : closed ≡ is_behind (place_after (Ahead 0) items)
  pub stops : stopped ≡ is_some stop
  pub at_packet : IfSome stop (λ through. IsPacket (slice_get (ahead items) through))

-- ---- by what was let through

-- the packets and pulses that are to be committed
abbrev pub inputs_in : List Decision → List Input
inputs_in [] = []
inputs_in (Admitted job ∷ decisions) = input_of job ∷ inputs_in decisions
inputs_in (Pulsed moment ∷ decisions) = input.Pulse moment ∷ inputs_in decisions
inputs_in (Returned job cause ∷ decisions) = inputs_in decisions

abbrev pub cause_outcome : Cause → Outcome
cause_outcome Shutdown = outcome.Shutdown
cause_outcome Stopped = outcome.Stopped

-- the replies from a place on, with these packets and pulses committed from a clock on
abbrev pub replies_from : ℕ → List Input → ℕ → List Decision → List ReplyValue
replies_from clock inputs place [] = []
replies_from clock inputs place (Admitted job ∷ decisions) =
    reply_with (outcome_at clock inputs (Ahead place)) job ∷ replies_from clock inputs (place + 1) decisions
replies_from clock inputs place (Pulsed moment ∷ decisions) = replies_from clock inputs (place + 1) decisions
replies_from clock inputs place (Returned job cause ∷ decisions) =
    reply_with (cause_outcome cause) job ∷ replies_from clock inputs place decisions
