-- A World with nothing left is at rest, and any other moves, however full its rings are.
use Rattle.std.proofs.Common.{refl, ap, ◌∙◌, arith, ◌≡◌, ◌⊎◌, inl, inr, ⊎_elim, ℕ, suc, ◌+◌, ◌*◌, ◌<◌, ◌≤◌, Bool, true, false, ◌&&◌, not, List, [], ◌∷◌, ◌++◌, length, sum_by, Option, Some, None, is_some, lt-ltb}
use Rattle.tb_world.proofs.Words.{if◌then◌else◌, nat_lt, cases_lt, get_or_past, sum_by-cons, get_or-le-sum_by, Numbered, ReplyValue, Ticket, Outcomes, Parcel, all_ended, group_as_batch, Event, Pop, BatchPush, BatchPop, OutcomePush, OutcomePop, ReplyPush, ReplyPop, Mailbox, empty_mailbox, mailbox_at, after_pop_of, WorldState, pop, batch_push, batch_pop, outcome_push, outcome_pop, reply_push, reply_pop, moved, IsAtRest, is_push, left_of_parcel, left_of_pushed, left_of_last, left_of_outcome, left_of_outcomes, unread, left, has_reply_slot, has_room, moved_within}
use Rattle.tb_core.specs.declared.parcel.Parcel.TheVariants as parcel
use Rattle.tb_world.proofs.progress.Steps.{Steps, steps}

pub rests : (world : WorldState) → left world ≡ 0 → IsAtRest world
rests world none = λ event unpushed. by (moved world event) (steps world event unpushed)
  where
    by : (after : Option WorldState) → Steps world after → after ≡ None
    by None step = refl
    by (Some next) step = absurd (omega (arith, none, step.fewer))

-- ---- replies in a ring

-- a mailbox with a reply in its ring, if there is one
find_unread : (mailboxes : List Mailbox)
    → (sum_by unread mailboxes ≡ 0) ⊎ ((own : ℕ) × (0 < unread (mailbox_at mailboxes own)))
find_unread [] = inl refl
find_unread (mailbox ∷ mailboxes) = by mailbox.ring refl (find_unread mailboxes)
  where
    by : (ring : List ReplyValue) → mailbox.ring ≡ ring
        → (sum_by unread mailboxes ≡ 0) ⊎ ((own : ℕ) × (0 < unread (mailbox_at mailboxes own)))
        → (sum_by unread (mailbox ∷ mailboxes) ≡ 0) ⊎ ((own : ℕ) × (0 < unread (mailbox_at (mailbox ∷ mailboxes) own)))
    by (reply ∷ ring) is later = inr (0, omega (arith, ap length is))
    by [] is (inl none) = inl (sum_by-cons unread mailbox mailboxes ∙ omega (arith, none, ap length is))
    by [] is (inr there) = inr (suc there.0, there.1)

all_read : (mailboxes : List Mailbox) (own : ℕ) → sum_by unread mailboxes ≡ 0 → unread (mailbox_at mailboxes own) ≡ 0
all_read mailboxes own none =
    ⊎_elim (λ (among : own < length mailboxes).
    omega (arith, none, get_or-le-sum_by unread mailboxes own empty_mailbox among))
    (λ (past : length mailboxes ≤ own). ap unread (get_or_past mailboxes own empty_mailbox past))
    (cases_lt own (length mailboxes))

-- ---- a step moves

abbrev pub MovesWithin : (WorldState → Event → Bool) → WorldState → Type 0
MovesWithin room world = (event : Event) × (is_push event ≡ false) × (is_some (moved_within room world event) ≡ true)

module _ (slots credit : ℕ) (some_slots : 0 < slots) (some_credit : 0 < credit) where
  abbrev Moves : WorldState → Type 0
  Moves world = MovesWithin (has_room slots credit) world

  abbrev Step : ℕ → WorldState → Type 0
  Step n world = (n ≡ 0) ⊎ Moves world

  step_by : (world : WorldState) (event : Event) → is_push event ≡ false → has_room slots credit world event ≡ true
      → is_some (moved world event) ≡ true → Moves world
  step_by world event unpushed room is = (event, unpushed, rw room is)

  -- a first step, or one that finds that there is none
  and_then : (world : WorldState) (first others : ℕ) → Step first world → (first ≡ 0 → Step others world) → Step (first + others) world
  and_then world first others (inr moves) second = inr moves
  and_then world first others (inl none) second = by (second none)
    where
      by : Step others world → Step (first + others) world
      by (inl nothing) = inl (omega (arith, none, nothing))
      by (inr moves) = inr moves

  read_step : (world : WorldState) (own : ℕ) (ring : List ReplyValue) → (mailbox_at world.mailboxes own).ring ≡ ring
      → 0 < length ring → Moves world
  read_step world own [] ring_is some = absurd (omega (arith, some))
  read_step world own (reply ∷ ring) ring_is some =
      step_by world (ReplyPop own) refl refl
      (ap (λ (ring : List ReplyValue). is_some (reply_pop world own (after_pop_of (mailbox_at world.mailboxes own) ring))) ring_is)

  reader : (world : WorldState) → Step (sum_by unread world.mailboxes) world
  reader world = by (find_unread world.mailboxes)
    where
      by : (sum_by unread world.mailboxes ≡ 0) ⊎ ((own : ℕ) × (0 < unread (mailbox_at world.mailboxes own)))
          → Step (sum_by unread world.mailboxes) world
      by (inl none) = inl none
      by (inr there) = inr (read_step world there.0 (mailbox_at world.mailboxes there.0).ring refl there.1)

  reply_room : (world : WorldState) (replies : List ReplyValue) → sum_by unread world.mailboxes ≡ 0 →
      has_reply_slot credit world replies ≡ true
  reply_room world [] none = refl
  reply_room world (reply ∷ replies) none =
      let lt : nat_lt (unread (mailbox_at world.mailboxes reply.packet.submitter)) credit ≡ true =
      lt-ltb (unread (mailbox_at world.mailboxes reply.packet.submitter)) credit
      (omega (arith, some_credit, all_read world.mailboxes reply.packet.submitter none)) in
      rw lt refl

  cutter : (world : WorldState) (replies : List ReplyValue) (outcomes : List Outcomes) → world.replies ≡ replies
      → world.outcomes ≡ outcomes → sum_by unread world.mailboxes ≡ 0
      → Step (length outcomes + (sum_by left_of_outcomes outcomes + 2 * length replies)) world
  cutter world (reply ∷ replies) outcomes replies_are outcomes_are none =
      inr (step_by world ReplyPush refl (reply_room world world.replies none)
      (ap (λ (replies : List ReplyValue). is_some (reply_push world replies)) replies_are))
  cutter world [] [] replies_are outcomes_are none = inl refl
  cutter world [] (outcome ∷ outcomes) replies_are outcomes_are none =
      inr (step_by world OutcomePop refl refl
      (ap (λ (replies : List ReplyValue). is_some (outcome_pop world replies world.outcomes)) replies_are
      ∙ ap (λ (outcomes : List Outcomes). is_some (outcome_pop world [] outcomes)) outcomes_are))

  committer : (world : WorldState) (outcome : Option Outcomes) (batches : List Parcel) → world.outcome ≡ outcome
      → world.batches ≡ batches → length world.outcomes ≡ 0
      → Step (length batches + (sum_by left_of_pushed batches + left_of_outcome outcome)) world
  committer world (Some outcome) batches outcome_is batches_are none =
      inr (step_by world OutcomePush refl (lt-ltb _ slots (omega (arith, some_slots, none)))
      (ap (λ (outcome : Option Outcomes). is_some (outcome_push world outcome)) outcome_is))
  committer world None [] outcome_is batches_are none = inl refl
  committer world None (handed ∷ batches) outcome_is batches_are none =
      inr (step_by world (BatchPop false) refl refl
      (ap (λ (outcome : Option Outcomes). is_some (batch_pop false world outcome world.batches)) outcome_is
      ∙ ap (λ (batches : List Parcel). is_some (batch_pop false world None batches)) batches_are))

  batcher : (world : WorldState) (parcels : List Parcel) (held : List Numbered) (queue : List Ticket) → world.parcels ≡ parcels
      → world.front.held ≡ held → world.queue ≡ queue → length world.batches ≡ 0 →
      Step (7 * length queue + (sum_by left_of_parcel parcels + (sum_by left_of_parcel (group_as_batch held)
      + left_of_last (all_ended world.front && not world.last_sent)))) world
  batcher world parcels held queue parcels_are held_is queue_is none = by parcels held queue parcels_are held_is queue_is
    where
      room : has_room slots credit world BatchPush ≡ true
      room = lt-ltb _ slots (omega (arith, some_slots, none))

      pushes : (parcels : List Parcel) (held : List Numbered) → world.parcels ≡ parcels → world.front.held ≡ held
          → is_some (batch_push world parcels held) ≡ true → Moves world
      pushes parcels held parcels_are held_is is =
          step_by world BatchPush refl room
          (ap (λ (parcels : List Parcel). is_some (batch_push world parcels world.front.held)) parcels_are
          ∙ ap (λ (held : List Numbered). is_some (batch_push world parcels held)) held_is ∙ is)

      last : (is_last : Bool) → (all_ended world.front && not world.last_sent) ≡ is_last → world.parcels ≡ [] → world.front.held ≡ []
          → Step (7 * 0 + (0 + (0 + left_of_last is_last))) world
      last false is parcels_are held_is = inl refl
      last true is parcels_are held_is =
          inr (pushes [] [] parcels_are held_is
          (ap (λ (is_last : Bool). is_some (if is_last
          then Some (record world { last_sent = true; batches = world.batches ++ parcel.Last ∷ [] }) else None)) is))

      by : (parcels : List Parcel) (held : List Numbered) (queue : List Ticket) → world.parcels ≡ parcels
          → world.front.held ≡ held → world.queue ≡ queue →
          Step (7 * length queue + (sum_by left_of_parcel parcels + (sum_by left_of_parcel (group_as_batch held)
          + left_of_last (all_ended world.front && not world.last_sent)))) world
      by (handed ∷ parcels) held queue parcels_are held_is queue_is = inr (pushes (handed ∷ parcels) held parcels_are held_is refl)
      by [] (job ∷ jobs) queue parcels_are held_is queue_is = inr (pushes [] (job ∷ jobs) parcels_are held_is refl)
      by [] [] (ticket ∷ queue) parcels_are held_is queue_is =
          inr (step_by world (Pop false) refl refl
          (ap (λ (parcels : List Parcel). is_some (pop false world parcels world.queue)) parcels_are
          ∙ ap (λ (queue : List Ticket). is_some (pop false world [] queue)) queue_is))
      by [] [] [] parcels_are held_is queue_is = last (all_ended world.front && not world.last_sent) refl parcels_are held_is

  abbrev later_steps : WorldState → ℕ
  later_steps world =
      (length world.batches + (sum_by left_of_pushed world.batches + left_of_outcome world.outcome))
      + (7 * length world.queue + (sum_by left_of_parcel world.parcels + (sum_by left_of_parcel (group_as_batch world.front.held)
      + left_of_last (all_ended world.front && not world.last_sent))))

  abbrev cut_steps : WorldState → ℕ
  cut_steps world = length world.outcomes + (sum_by left_of_outcomes world.outcomes + 2 * length world.replies)

  pub moves_within : (world : WorldState) → (left world ≡ 0) ⊎ Moves world
  moves_within world =
      by (and_then world (sum_by unread world.mailboxes) (cut_steps world + later_steps world) (reader world)
      (λ read. and_then world (cut_steps world) (later_steps world) (cutter world world.replies world.outcomes refl refl read)
      (λ cut. and_then world _ _ (committer world world.outcome world.batches refl refl (omega (arith, cut)))
      (λ committed. batcher world world.parcels world.front.held world.queue refl refl refl (omega (arith, committed))))))
    where
      by : Step (sum_by unread world.mailboxes + (cut_steps world + later_steps world)) world → (left world ≡ 0) ⊎ Moves world
      by (inl none) = inl (omega (arith, none))
      by (inr moves) = inr moves

  pub none_is_stuck : (world : WorldState) → IsAtRest world ⊎ Moves world
  none_is_stuck world = by (moves_within world)
    where
      by : (left world ≡ 0) ⊎ Moves world → IsAtRest world ⊎ Moves world
      by (inl none) = inl (rests world none)
      by (inr moves) = inr moves

-- the parts of a step that found room and moved
pub within_parts : (b : Bool) (after : Option WorldState) → is_some (if b then after else None) ≡ true
    → (b ≡ true) × (is_some after ≡ true)
within_parts true after is = (refl, is)
within_parts false after is = cc

pub ends : (world : WorldState) → IsAtRest world → left world ≡ 0
ends world rest = by (moves_within 1 1 (omega arith) (omega arith) world)
  where
    by : (left world ≡ 0) ⊎ MovesWithin (has_room 1 1) world → left world ≡ 0
    by (inl none) = none
    by (inr (event, unpushed, moves)) =
        let parts = within_parts (has_room 1 1 world event) (moved world event) moves in
        let stays : is_some (moved world event) ≡ false = ap (λ (after : Option WorldState). is_some after) (rest event unpushed) in
        cc
