-- The World as one record of lists, and the table of its steps.
use Rattle.std.specs.Prelude.{◌≡◌, ◌≤◌, ℕ, ◌+◌, Bool, true, false, not, ◌&&◌, if◌then◌else◌, List, [], ◌∷◌, ◌++◌, length, All, Option, Some, None, is_some, slice_index_or, slice_set, unwrap_or, replicate}
use Rattle.tb_work.specs.claim.Packet.{Numbered, ReplyValue}
use Rattle.tb_work.specs.declared.item.Ticket.{Ticket}
use Rattle.tb_core.specs.declared.outcomes.Outcomes.{Outcomes}
use Rattle.tb_core.specs.declared.outcomes.Outcomes.TheVariants as outcomes
use Rattle.tb_core.specs.declared.parcel.Parcel.{Parcel}
use Rattle.tb_core.specs.declared.parcel.Parcel.TheVariants.{Batch, Last}
use Rattle.tb_world.specs.declared.event.Event.{Event}
use Rattle.tb_world.specs.declared.event.Event.TheVariants.{Push, Pop, BatchPush, BatchPop, OutcomePush, OutcomePop, ReplyPush, ReplyPop}
use Rattle.tb_world.specs.declared.sender.WorldSender.{WorldSender}
use Rattle.tb_core.specs.claim.Front.{FrontState, take_step, with_group, all_ended, takes_memory as ticket_takes}
use Rattle.tb_core.specs.claim.Journal.{LedgerState}
use Rattle.tb_core.specs.claim.Ledger.{apply_step, new_ledger, takes_memory as parcel_takes}
use Rattle.tb_core.specs.claim.Run.{replies_in}
use Rattle.tb_world.specs.clauses.Pushing.{newcomer, may_push, sender_after}
use Rattle.tb_world.specs.clauses.Mailbox.{Mailbox, empty_mailbox, mailbox_at, mailboxes_with, after_pop}

-- each list has its oldest first
pub record WorldState : Type 0 where
  pub limit : ℕ
  pub submitters : ℕ
  pub senders : List WorldSender  -- the submitters, and after them the control
  pub queue : List Ticket
  pub front : FrontState
  pub parcels : List Parcel  -- those that the batcher is to push
  pub last_sent : Bool
  pub batches : List Parcel  -- the batch ring
  pub ledger : LedgerState
  pub outcome : Option Outcomes  -- the one that the committer is to push
  pub outcomes : List Outcomes  -- the outcome ring
  pub replies : List ReplyValue  -- those that the demultiplexer is to push
  pub mailboxes : List Mailbox  -- of each submitter its reply ring, and what it received

-- ---- the queue

abbrev pub sender_at : List WorldSender → ℕ → WorldSender
sender_at senders number = slice_index_or senders number newcomer

abbrev pub is_lawful : WorldState → Ticket → Bool
is_lawful world ticket =
    may_push world.limit world.submitters ticket.sender (sender_at world.senders ticket.sender) ticket.item

-- the senders after a ticket
abbrev pub senders_after : List WorldSender → Ticket → List WorldSender
senders_after senders ticket =
    slice_set senders ticket.sender (sender_after (sender_at senders ticket.sender) ticket.item)

abbrev pub push : WorldState → Ticket → Option WorldState
push world ticket =
    if is_lawful world ticket
    then Some (record world { senders = senders_after world.senders ticket; queue = world.queue ++ ticket ∷ [] })
    else None

-- ---- the batcher

-- it takes a ticket if it has no parcel to push
abbrev pub pop : Bool → WorldState → List Parcel → List Ticket → Option WorldState
pop refused world [] (ticket ∷ queue) =
    let next = take_step refused world.front ticket.sender ticket.item in
    Some (record world { queue = queue; front = next.front; parcels = next.parcels })
pop refused world [] [] = None
pop refused world (parcel ∷ parcels) queue = None

-- it pushes its first parcel, else the group held, else Last once all have ended
abbrev pub batch_push : WorldState → List Parcel → List Numbered → Option WorldState
batch_push world (parcel ∷ parcels) held =
    Some (record world { parcels = parcels; batches = world.batches ++ parcel ∷ [] })
batch_push world [] (job ∷ jobs) =
    Some (record world { front = with_group world.front []; batches = world.batches ++ Batch (job ∷ jobs) ∷ [] })
batch_push world [] [] =
    if all_ended world.front && not world.last_sent
    then Some (record world { last_sent = true; batches = world.batches ++ Last ∷ [] })
    else None

-- ---- the committer

-- a pulse leaves no outcome
abbrev pub pending_of : Outcomes → Option Outcomes
pending_of (outcomes.Cut replies) = Some (outcomes.Cut replies)
pending_of (outcomes.One reply) = Some (outcomes.One reply)
pending_of outcomes.Nothing = None
pending_of outcomes.Last = Some outcomes.Last

-- it applies a parcel if it has no outcome to push
abbrev pub batch_pop : Bool → WorldState → Option Outcomes → List Parcel → Option WorldState
batch_pop refused world None (parcel ∷ batches) =
    let next = apply_step refused world.ledger parcel in
    Some (record world { batches = batches; ledger = next.ledger; outcome = pending_of next.outcomes })
batch_pop refused world None [] = None
batch_pop refused world (Some outcome) batches = None

abbrev pub outcome_push : WorldState → Option Outcomes → Option WorldState
outcome_push world None = None
outcome_push world (Some outcome) = Some (record world { outcome = None; outcomes = world.outcomes ++ outcome ∷ [] })

-- ---- the demultiplexer

-- it cuts an outcome if it has no reply to push
abbrev pub outcome_pop : WorldState → List ReplyValue → List Outcomes → Option WorldState
outcome_pop world [] (outcome ∷ outcomes) = Some (record world { outcomes = outcomes; replies = replies_in outcome })
outcome_pop world [] [] = None
outcome_pop world (reply ∷ replies) outcomes = None

abbrev pub reply_push : WorldState → List ReplyValue → Option WorldState
reply_push world [] = None
reply_push world (reply ∷ replies) =
    Some (record world { replies = replies; mailboxes = mailboxes_with world.mailboxes reply })

-- ---- the submitters

abbrev pub received_of : WorldState → ℕ → List ReplyValue
received_of world submitter = (mailbox_at world.mailboxes submitter).received

abbrev pub reply_pop : WorldState → ℕ → Option Mailbox → Option WorldState
reply_pop world submitter None = None
reply_pop world submitter (Some mailbox) = Some (record world { mailboxes = slice_set world.mailboxes submitter mailbox })

-- ---- the table

-- the World after an event, or None if it returns false
abbrev pub moved : WorldState → Event → Option WorldState
moved world (Push ticket) = push world ticket
moved world (Pop refused) = pop refused world world.parcels world.queue
moved world BatchPush = batch_push world world.parcels world.front.held
moved world (BatchPop refused) = batch_pop refused world world.outcome world.batches
moved world OutcomePush = outcome_push world world.outcome
moved world OutcomePop = outcome_pop world world.replies world.outcomes
moved world ReplyPush = reply_push world world.replies
moved world (ReplyPop submitter) = reply_pop world submitter (after_pop (mailbox_at world.mailboxes submitter))

-- whether the first of these takes memory
abbrev pub first_takes : {A : Type 0} → (A → Bool) → List A → Bool
first_takes takes [] = false
first_takes takes (first ∷ others) = takes first

-- Whether an event may fail for memory: a push if its ring grows, a pop if a packet begins or joins a group, or if the
-- ledger commits. A step with `refused` takes none.
abbrev pub takes_memory : WorldState → Event → Bool
takes_memory world (Pop refused) =
    not refused && first_takes (λ (ticket : Ticket). ticket_takes world.front ticket.item) world.queue
takes_memory world (BatchPop refused) = not refused && first_takes (parcel_takes world.ledger) world.batches
takes_memory world OutcomePop = false
takes_memory world other = true

-- false changes nothing
abbrev pub after_event : WorldState → Event → WorldState
after_event world event = unwrap_or (moved world event) world

-- an event answers this and leads to this World
pub record IsMove (world : WorldState) (event : Event) (moves : Bool) (next : WorldState) : Type 0 where
  pub answer : moves ≡ is_some (moved world event)
  pub leads : next ≡ after_event world event

abbrev pub run : WorldState → List Event → WorldState
run world [] = world
run world (event ∷ events) = run (after_event world event) events

-- one of the events moves and may fail for memory, and those before it lead to `next`
abbrev pub FailsAt : WorldState → List Event → WorldState → Type 0
FailsAt world events next =
    (before : List Event) × (event : Event) × (after : List Event) × (events ≡ before ++ event ∷ after)
    × (next ≡ run world before) × (is_some (moved next event) ≡ true) × (takes_memory next event ≡ true)

-- one of the events, after those before it, moves and may fail for memory
abbrev pub TakeMemory : WorldState → List Event → Type 0
TakeMemory world events = (next : WorldState) × FailsAt world events next

-- a World over a ledger, in which nothing happened
abbrev pub world_over : LedgerState → ℕ → ℕ → WorldState
world_over start limit submitters =
    record {
      limit = limit;
      submitters = submitters;
      senders = replicate (submitters + 1) newcomer;
      queue = [];
      front = record {
        limit = limit;
        submitters = submitters;
        held = [];
        closed = false;
        stopped = false;
        ended = replicate 17 false;
      };
      parcels = [];
      last_sent = false;
      batches = [];
      ledger = start;
      outcome = None;
      outcomes = [];
      replies = [];
      mailboxes = replicate submitters empty_mailbox;
    }

-- a World over a new ledger
abbrev pub new_world : ℕ → ℕ → ℕ → WorldState
new_world clock limit submitters = world_over (new_ledger clock) limit submitters

-- what is true of a World between its steps: the front takes tickets of these senders
pub record IsWorld (submitters : ℕ) (front : FrontState) (queue : List Ticket) (senders : List WorldSender) : Type 0 where
  pub counted : front.submitters ≡ submitters
  pub queued : All (λ (ticket : Ticket). ticket.sender ≤ submitters) queue
  pub all_senders : length senders ≡ submitters + 1
