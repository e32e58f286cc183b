-- What a contract sees of the ends of a queue.
use Rattle.std.specs.Prelude.{ℕ, suc, false, List, [], ◌∷◌, ◌++◌, length, Some}
use Rattle.atomic_table.specs.Seated.{TableId}
use Rattle.tb_rings.specs.clauses.Ends.{outlet_ring}
use Rattle.tb_rings.specs.declared.Outlet.{Outlet}
use Rattle.tb_work.specs.claim.Packet.{ReplyValue}
use Rattle.tb_work.specs.declared.item.Item.{Item}
use Rattle.tb_work.specs.declared.item.Ticket.{Ticket}
pub use Rattle.tb_submit.specs.claim.Ended.{Seat, Origin, SenderState, EndedState, IntakeState, queued_by, replies_of}

-- a submitter: its credit, what it queued, the replies that it read, and those that it has seen in its ring
pub record SubmitterState : Type 0 where
  pub origin : Origin
  pub credit : ℕ
  pub queued : List Item
  pub read : List ReplyValue
  pub lying : List ReplyValue

abbrev pub with_taken : IntakeState → Ticket → IntakeState
with_taken intake ticket = record intake { taken = intake.taken ++ ticket ∷ [] }

-- the intake, which sees its queue empty after all that it took
abbrev pub with_empty : IntakeState → IntakeState
with_empty intake = record intake { seen_empty = intake.seen_empty ++ length intake.taken ∷ [] }

-- the tickets that were queued up to a submitter's last packet
pub record SeenState : Type 0 where
  pub queue : TableId
  pub tickets : List Ticket

-- ---- the senders of an intake's queue

abbrev pub seat_at : IntakeState → ℕ → Seat
seat_at intake number =
    record { queue = Some intake.queue; submitters = intake.submitters; limit = intake.limit; number = number }

abbrev pub control_seat : IntakeState → Seat
control_seat intake = seat_at intake intake.submitters

-- the submitters with these seats whose replies come by these rings, from a number on
abbrev pub origins_from : (ℕ → Seat) → ℕ → List (Outlet ReplyValue) → List Origin
origins_from seats number [] = []
origins_from seats number (outlet ∷ outlets) =
    record { seat = seats number; ring = outlet_ring outlet } ∷ origins_from seats (suc number) outlets

abbrev pub origins : IntakeState → List (Outlet ReplyValue) → List Origin
origins intake outlets = origins_from (seat_at intake) 0 outlets

abbrev pub origin_of : SubmitterState → Origin
origin_of submitter = submitter.origin

abbrev pub end_origin : EndedState → Origin
end_origin ended = ended.origin

-- ---- as they are opened

abbrev pub new_submitter : ℕ → Origin → SubmitterState
new_submitter credit origin = record { origin = origin; credit = credit; queued = []; read = []; lying = [] }

abbrev pub new_control : IntakeState → SenderState
new_control intake = record { seat = control_seat intake; queued = []; learned = [] }

abbrev pub new_intake : TableId → ℕ → ℕ → ℕ → IntakeState
new_intake queue submitters limit capacity =
    record {
      queue = queue;
      submitters = submitters;
      limit = limit;
      capacity = capacity;
      taken = [];
      seen_empty = [];
    }

-- ---- one item more

abbrev pub with_item : SubmitterState → Item → SubmitterState
with_item submitter item = record submitter { queued = submitter.queued ++ item ∷ [] }

abbrev pub sender_with : SenderState → Item → SenderState
sender_with sender item = record sender { queued = sender.queued ++ item ∷ [] }

-- the submitter with this as its last item
abbrev pub ended_with : SubmitterState → Item → EndedState
ended_with submitter item =
    record {
      origin = submitter.origin;
      queued = submitter.queued ++ item ∷ [];
      read = submitter.read;
      lying = submitter.lying;
      settled = false;
    }
