-- How a World comes to rest: the steps that are left, rounds, and rings with bounds.
use Rattle.std.specs.Prelude.{◌≡◌, ◌<◌, ◌≤◌, ◌⊎◌, ℕ, zero, suc, ◌+◌, ◌-◌, ◌*◌, ◌==◌, Bool, true, false, not, ◌&&◌, if◌then◌else◌, List, [], ◌∷◌, ◌++◌, length, take, sum_by, flat_map, nat_lt, Option, Some, None, is_some, unwrap_or}
use Rattle.std.specs.List.{list_any, list_all, AllByRecursion}
use Rattle.tb_work.specs.claim.Packet.{Numbered, ReplyValue}
use Rattle.tb_work.specs.declared.item.Item.{Item}
use Rattle.tb_work.specs.declared.item.Item.TheVariants.{Packet}
use Rattle.tb_work.specs.declared.item.Ticket.{Ticket}
use Rattle.tb_core.specs.declared.outcomes.Outcomes.{Outcomes}
use Rattle.tb_core.specs.declared.parcel.Parcel.{Parcel}
use Rattle.tb_core.specs.declared.parcel.Parcel.TheVariants.{Batch, Return}
use Rattle.tb_core.specs.claim.Front.{all_ended, group_as_batch}
use Rattle.tb_core.specs.claim.Journal.{LedgerState}
use Rattle.tb_core.specs.claim.Run.{Commits, replies_in}
use Rattle.tb_world.specs.declared.event.Event.{Event}
use Rattle.tb_world.specs.declared.event.Event.TheVariants.{Push, Pop, BatchPush, BatchPop, OutcomePush, OutcomePop, ReplyPush, ReplyPop}
use Rattle.tb_world.specs.clauses.Mailbox.{Mailbox, mailbox_at}
use Rattle.tb_world.specs.clauses.World.{WorldState, sender_at, received_of, moved, after_event, run, world_over, takes_memory}
use Rattle.tb_world.specs.clauses.EveryOrder.{IsAtRest, is_push, is_refused, history, HasRun, IsLawfulAtRest}

-- ---- how many steps are left

-- the replies that a parcel leads to
abbrev pub owed : Parcel → ℕ
owed (Batch jobs) = length jobs
owed (Return job cause) = 1
owed other = 0

-- A parcel is pushed and applied, its outcome is pushed and cut, and each of its replies is pushed and read.
abbrev pub left_of_parcel : Parcel → ℕ
left_of_parcel parcel = 4 + 2 * owed parcel

-- a parcel in the batch ring
abbrev pub left_of_pushed : Parcel → ℕ
left_of_pushed parcel = 3 + 2 * owed parcel

abbrev pub left_of_last : Bool → ℕ
left_of_last false = 0
left_of_last true = 4

-- the outcome that the committer is to push
abbrev pub left_of_outcome : Option Outcomes → ℕ
left_of_outcome None = 0
left_of_outcome (Some outcome) = 2 + 2 * length (replies_in outcome)

-- an outcome in its ring
abbrev pub left_of_outcomes : Outcomes → ℕ
left_of_outcomes outcome = 1 + 2 * length (replies_in outcome)

abbrev pub unread : Mailbox → ℕ
unread mailbox = length mailbox.ring

-- the parcels that the batcher is to push, the group that it holds, and whether Last is next
abbrev pub left_of_batcher : List Parcel → List Numbered → Bool → ℕ
left_of_batcher parcels held last =
    sum_by left_of_parcel parcels + (sum_by left_of_parcel (group_as_batch held) + left_of_last last)

-- The most steps, none of them a push, that can still move. A queued ticket has seven: it is popped, and may be a parcel with a
-- reply.
abbrev pub left : WorldState → ℕ
left world =
    7 * length world.queue
    + (left_of_batcher world.parcels world.front.held (all_ended world.front && not world.last_sent)
    + (sum_by left_of_pushed world.batches + (left_of_outcome world.outcome + (sum_by left_of_outcomes world.outcomes
    + (2 * length world.replies + sum_by unread world.mailboxes)))))

-- ---- a World that is brought to rest

-- an event that is no push, moves, and lets no allocation fail
pub record MayMove (world : WorldState) (event : Event) : Type 0 where
  pub no_push : is_push event ≡ false
  pub unrefused : is_refused event ≡ false
  pub moves : is_some (moved world event) ≡ true

-- steps that end at rest: none is a push, and they are no more than were left
pub record HasFinished (old new : WorldState) : Type 0 where
  pub steps : List Event
  pub leads : new ≡ run old steps
  pub no_push : list_any is_push steps ≡ false
  pub unrefused : list_any is_refused steps ≡ false
  pub few : length steps ≤ left old
  pub rest : IsAtRest new

-- some steps, none of them a push, lead to `new`, and then one that moves takes memory
pub record RunsOut (old new : WorldState) : Type 0 where
  pub steps : List Event
  pub event : Event
  pub leads : new ≡ run old steps
  pub no_push : list_any is_push steps ≡ false
  pub unrefused : list_any is_refused steps ≡ false
  pub next : MayMove new event
  pub takes : takes_memory new event ≡ true

-- after some steps, none of them a push, one that moves takes memory
abbrev pub MayRunOut : WorldState → Type 0
MayRunOut old = (new : WorldState) × RunsOut old new

-- Any events, and then steps that end at rest, none of them a push: each submitter has received exactly what is due to it. The
-- steps push nothing, and are at most seven for each ticket that the events pushed.
pub record HasRested (start : LedgerState) (limit submitters : ℕ) (events : List Event) (world : WorldState) : Type 0 where
  pub steps : List Event
  pub ran : HasRun start limit submitters (events ++ steps) world
  pub no_push : list_any is_push steps ≡ false
  pub none_more : history (world_over start limit submitters) (events ++ steps)
      ≡ history (world_over start limit submitters) events
  pub unrefused : list_any is_refused steps ≡ false
  pub few : length steps ≤ 7 * length (history (world_over start limit submitters) events)
  pub rest : IsAtRest world
  pub answered : IsLawfulAtRest start submitters (history (world_over start limit submitters) events) world

-- ---- rounds

-- the same actor moves, with or without an allocation that fails
abbrev pub is_same_step : Event → Event → Bool
is_same_step (Pop refused) (Pop other) = true
is_same_step BatchPush BatchPush = true
is_same_step (BatchPop refused) (BatchPop other) = true
is_same_step OutcomePush OutcomePush = true
is_same_step OutcomePop OutcomePop = true
is_same_step ReplyPush ReplyPush = true
is_same_step (ReplyPop submitter) (ReplyPop other) = submitter == other
is_same_step event other = false

-- a step of a stage, or of one of these submitters as a reader
abbrev pub is_step_of : ℕ → Event → Bool
is_step_of submitters (Push ticket) = false
is_step_of submitters (ReplyPop submitter) = nat_lt submitter submitters
is_step_of submitters other = true

-- each stage's steps and each submitter's come at least once, in any order, and no push does
pub record IsRound (submitters : ℕ) (events : List Event) : Type 0 where
  pub all : (event : Event) → is_step_of submitters event ≡ true → list_any (is_same_step event) events ≡ true
  pub no_push : list_any is_push events ≡ false

-- the events of rounds, in order
abbrev pub all_of : List (List Event) → List Event
all_of rounds = flat_map (λ (round : List Event). round) rounds

abbrev pub readers : ℕ → List Event
readers zero = []
readers (suc submitter) = ReplyPop submitter ∷ readers submitter

-- the shortest round
abbrev pub one_round : ℕ → List Event
one_round submitters =
    Pop false ∷ BatchPush ∷ BatchPop false ∷ OutcomePush ∷ OutcomePop ∷ ReplyPush ∷ readers submitters

-- ---- rings with bounds

-- whether the reply ring of the next reply has a free slot
abbrev pub has_reply_slot : ℕ → WorldState → List ReplyValue → Bool
has_reply_slot credit world replies =
    list_all (λ (reply : ReplyValue). nat_lt (unread (mailbox_at world.mailboxes reply.packet.submitter)) credit)
    (take 1 replies)

-- Whether a step finds a free slot for what it puts into a ring. The rings between stages have this number of slots, and each
-- reply ring has `credit`.
abbrev pub has_room : ℕ → ℕ → WorldState → Event → Bool
has_room slots credit world BatchPush = nat_lt (length world.batches) slots
has_room slots credit world OutcomePush = nat_lt (length world.outcomes) slots
has_room slots credit world ReplyPush = has_reply_slot credit world world.replies
has_room slots credit world other = true

-- a step that finds no free slot waits
abbrev pub moved_within : (WorldState → Event → Bool) → WorldState → Event → Option WorldState
moved_within room world event = if room world event then moved world event else None

abbrev pub run_within : (WorldState → Event → Bool) → WorldState → List Event → WorldState
run_within room world [] = world
run_within room world (event ∷ events) = run_within room (unwrap_or (moved_within room world event) world) events

-- ---- credit

abbrev pub in_flight : WorldState → ℕ → ℕ
in_flight world submitter = (sender_at world.senders submitter).pushed - length (received_of world submitter)

-- a packet is pushed while fewer than `credit` packets of its submitter have unread replies
abbrev pub has_credit : ℕ → ℕ → Item → Bool
has_credit credit flying (Packet job) = nat_lt flying credit
has_credit credit flying other = true

abbrev pub uses_credit : ℕ → WorldState → Event → Bool
uses_credit credit world (Push ticket) = has_credit credit (in_flight world ticket.sender) ticket.item
uses_credit credit world other = true

-- each of the events does, after those before it
abbrev pub UseCredit : ℕ → WorldState → List Event → Type 0
UseCredit credit world [] = Unit {0}
UseCredit credit world (event ∷ events) =
    (uses_credit credit world event ≡ true) × UseCredit credit (after_event world event) events

-- ---- laws

-- In any state: a step that moves and is no push lowers what is left, also if its allocation fails, a push that moves adds
-- seven, and nothing is left exactly at rest.
pub record EachStepCounts : Type 0 where
  pub falls : (world next : WorldState) (event : Event) → is_push event ≡ false → moved world event ≡ Some next
      → left next < left world
  pub adds : (world next : WorldState) (ticket : Ticket) → moved world (Push ticket) ≡ Some next
      → left next ≡ left world + 7
  pub rests : (world : WorldState) → left world ≡ 0 → IsAtRest world
  pub ends : (world : WorldState) → IsAtRest world → left world ≡ 0

-- Any events from a World's opening on leave at most seven steps for each ticket that was pushed.
abbrev pub LeftIsBounded : Type 0
LeftIsBounded =
    (start : LedgerState) (limit submitters : ℕ) (events : List Event) →
    left (run (world_over start limit submitters) events)
    ≤ 7 * length (history (world_over start limit submitters) events)

-- No state is stuck, however full its rings are: it is at rest, or a step that finds a free slot moves.
abbrev pub NoneIsStuck : Type 0
NoneIsStuck =
    (slots credit : ℕ) (world : WorldState) → 0 < slots → 0 < credit → IsAtRest world ⊎
    ((event : Event) × (is_push event ≡ false) × (is_some (moved_within (has_room slots credit) world event) ≡ true))

-- As many rounds as steps are left lead to rest, also if each ring has one slot and if any allocation in them fails.
abbrev pub FairListsRest : Type 0
FairListsRest =
    (slots credit submitters : ℕ) (world : WorldState) (rounds : List (List Event)) → 0 < slots → 0 < credit
    → length world.mailboxes ≤ submitters → AllByRecursion (IsRound submitters) rounds → left world ≤ length rounds
    → IsAtRest (run_within (has_room slots credit) world (all_of rounds))

-- Any events, and then seven rounds for each ticket that they pushed: each submitter has received exactly what is due to it,
-- and if all senders have ended the report is lawful.
abbrev pub FairRunsAreAnswered : Type 0
FairRunsAreAnswered =
    (start : LedgerState) (limit submitters : ℕ) (events : List Event) (rounds : List (List Event)) (world : WorldState)
    → AllByRecursion (IsRound submitters) rounds →
    7 * length (history (world_over start limit submitters) events) ≤ length rounds
    → HasRun start limit submitters (events ++ all_of rounds) world
    → IsLawfulAtRest start submitters (history (world_over start limit submitters) events) world

-- There are rounds.
abbrev pub OneRoundIsARound : Type 0
OneRoundIsARound = (submitters : ℕ) → IsRound submitters (one_round submitters)

-- Within the credit a reply ring of `credit` slots has a free one whenever a reply is to be pushed: no stage waits for a
-- submitter.
abbrev pub CreditLeavesRoom : Type 0
CreditLeavesRoom =
    (start : LedgerState) (limit submitters credit slots : ℕ) (events : List Event) → Commits start [] start []
    → 0 < credit → UseCredit credit (world_over start limit submitters) events →
    has_room slots credit (run (world_over start limit submitters) events) ReplyPush ≡ true
