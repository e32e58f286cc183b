-- What the private types keep.
use Rattle.std.specs.Prelude.{◌≡◌, ℕ, ◌-◌, ◌<◌, ◌≤◌, min, length, List, [], ◌∷◌, ◌++◌, Option, Some, None, ⊤}
use Rattle.std.specs.List.{AllByRecursion}
use Rattle.atomic_table.specs.Seated.{TableId}
use Rattle.crossbeam_queue.specs.Passes.{Pass, view}
use Rattle.tb_layout.specs.claim.Bounds.{batch_max, capacity_max}
use Rattle.tb_work.specs.claim.Ahead.{items_from}
use Rattle.tb_work.specs.claim.Packet.{ReplyValue}
use Rattle.tb_work.specs.claim.Queue.{IsUnended}
use Rattle.tb_work.specs.declared.item.Item.{Item}
use Rattle.tb_work.specs.declared.item.Ticket.{Ticket}
use Rattle.tb_work.specs.declared.refusal.Refusal.{Refusal}
use Rattle.tb_submit.specs.declared.rule.PassEntry.{PassEntry}
use Rattle.tb_submit.specs.declared.rule.IntakeMark.{IntakeMark}
use Rattle.tb_submit.specs.declared.rule.View.{View}
use Rattle.tb_submit.specs.clauses.Ends.{Seat, SenderState, EndedState}
use Rattle.tb_submit.specs.clauses.Lists.{ArePackets, IsCompleteQueue}
use Rattle.tb_submit.specs.clauses.Refusals.{first_refusal_in}
use Rattle.tb_submit.specs.clauses.Rule.{entry, first_pushed, sender}

abbrev pub view_of : Pass Ticket View → View
view_of pass = view pass

abbrev pub taken_of : Option IntakeMark → List Ticket
taken_of None = []
taken_of (Some mark) = mark.taken

abbrev pub count_of : Option IntakeMark → ℕ
count_of None = 0
count_of (Some mark) = mark.count

abbrev pub seen_empty_of : Option IntakeMark → List ℕ
seen_empty_of None = []
seen_empty_of (Some mark) = mark.seen_empty

-- the pass with the mark: its queue and that one's capacity, the entries that were gathered, what was taken, how many
-- numbers were assigned, and after how many tickets the queue was seen empty. `learned` is from the sender that was
-- gathered last.
pub record ReaderState : Type 0 where
  pub queue : TableId
  pub capacity : ℕ
  pub entries : List PassEntry
  pub taken : List Ticket
  pub count : ℕ
  pub seen_empty : List ℕ
  pub learned : List (List Ticket)

-- the reader, which sees its queue empty after all that was taken
abbrev pub reader_with_empty : ReaderState → ReaderState
reader_with_empty reader = record reader { seen_empty = reader.seen_empty ++ length reader.taken ∷ [] }

abbrev pub seat_with : Option TableId → ℕ → ℕ → ℕ → Seat
seat_with queue submitters limit number =
    record { queue = queue; submitters = submitters; limit = limit; number = number }

abbrev pub state_while_open : Pass Ticket View → ℕ → ℕ → ℕ → SenderState
state_while_open pass submitters limit number =
    record {
      seat = seat_with (Some pass.table_id) submitters limit number;
      queued = first_pushed (view_of pass).entries;
      learned = (view_of pass).learned;
    }

-- a sender that has ended, whose pass may be gone
abbrev pub state_once_ended : Option (Pass Ticket View) → ℕ → ℕ → ℕ → SenderState
state_once_ended None submitters limit number =
    record { seat = seat_with None submitters limit number; queued = []; learned = [] }
state_once_ended (Some pass) submitters limit number = state_while_open pass submitters limit number

-- the view is that of a sender's pass
abbrev pub IsSenderView : ℕ → View → Type 0
IsSenderView number view = view ≡ sender number (first_pushed view.entries) view.history view.learned

-- no list has an end of this sender
abbrev pub AreUnended : ℕ → List (List Ticket) → Type 0
AreUnended number learned = AllByRecursion (λ (seen : List Ticket). IsUnended (items_from number seen)) learned

abbrev pub IsLeft : Option (Pass Ticket View) → ℕ → ℕ → ℕ → Type 0
IsLeft None submitters limit number = ⊤
IsLeft (Some pass) submitters limit number =
    (pass.me.1 ≡ []) × IsSenderView number (view_of pass)
    × IsCompleteQueue limit submitters number (first_pushed (view_of pass).entries)
    × AreUnended number (view_of pass).learned

-- once it was settled it counts the replies in its ring
abbrev pub CountsUnread : Option ℕ → List ReplyValue → Type 0
CountsUnread None lying = ⊤
CountsUnread (Some unread) lying = unread ≡ length lying

-- a submitter's counts: of what it queued, and of the replies read, as far as 64 bits go
pub record IsSubmitter (seat : Seat) (queued : List Item) (count credit seen : ℕ) (first : Option Refusal)
    (read : List ReplyValue) : Type 0 where
  pub among : seat.number < seat.submitters
  pub limited : seat.limit ≤ batch_max
  pub packets : ArePackets seat.limit seat.number 0 queued
  pub counted : count ≡ length queued
  pub credited : length queued - length read ≤ credit
  pub few : credit ≤ capacity_max
  pub counted_read : seen ≡ min (length read) 18446744073709551615
  pub first_refusal : first ≡ first_refusal_in read

abbrev pub entry_of : EndedState → PassEntry
entry_of ended = entry ended.origin.seat.number ended.queued
