-- A round takes one at least from what is left, so as many rounds as steps are left lead to rest.
use Rattle.std.proofs.Common.{refl, sym, ap, subst, ◌∙◌, arith, ◌≡◌, ◌≢◌, ◌⊎◌, inl, inr, ⊎_elim, ℕ, zero, suc, ◌<◌, ◌≤◌, Bool, true, false, ◌||◌, List, [], ◌∷◌, ◌++◌, length, Option, Some, None, is_some, unwrap_or, eqb-true, ltb-true, eq-eqb, lt-ltb}
use Rattle.tb_world.proofs.Words.{if◌then◌else◌, list_any, AllByRecursion, cases_eq, or_parts, ne_eqb, ReplyValue, Ticket, Outcomes, Parcel, Event, Push, Pop, BatchPush, BatchPop, OutcomePush, OutcomePop, ReplyPush, ReplyPop, mailbox_at, after_pop_of, WorldState, pop, batch_pop, reply_pop, moved, IsAtRest, is_push, left, is_same_step, is_step_of, IsRound, all_of, readers, one_round, OneRoundIsARound, has_room, moved_within, run_within, FairListsRest}
use Rattle.tb_world.proofs.progress.Steps.{Steps, steps, is_among}
use Rattle.tb_world.proofs.progress.Rests.{MovesWithin, within_parts, moves_within, rests}

-- ---- the same actor moves too

pop_either : (refused other : Bool) (world : WorldState) (parcels : List Parcel) (queue : List Ticket)
    → is_some (pop refused world parcels queue) ≡ true → is_some (pop other world parcels queue) ≡ true
pop_either refused other world [] (ticket ∷ queue) is = refl
pop_either refused other world [] [] is = cc
pop_either refused other world (handed ∷ parcels) queue is = cc

batch_pop_either : (refused other : Bool) (world : WorldState) (outcome : Option Outcomes) (batches : List Parcel)
    → is_some (batch_pop refused world outcome batches) ≡ true → is_some (batch_pop other world outcome batches) ≡ true
batch_pop_either refused other world None (handed ∷ batches) is = refl
batch_pop_either refused other world None [] is = cc
batch_pop_either refused other world (Some outcome) batches is = cc

same_moves : (world : WorldState) (event other : Event) → is_same_step event other ≡ true
    → is_some (moved world event) ≡ true → is_some (moved world other) ≡ true
same_moves world (Pop refused) (Pop other) same is = pop_either refused other world world.parcels world.queue is
same_moves world BatchPush BatchPush same is = is
same_moves world (BatchPop refused) (BatchPop other) same is = batch_pop_either refused other world world.outcome world.batches is
same_moves world OutcomePush OutcomePush same is = is
same_moves world OutcomePop OutcomePop same is = is
same_moves world ReplyPush ReplyPush same is = is
same_moves world (ReplyPop own) (ReplyPop other) same is =
    subst (λ k. is_some (moved world (ReplyPop k)) ≡ true) (eqb-true own other same) is
same_moves world event other same is = cc

-- a step that moves is one of a stage, or of a submitter that there is
a_step : (submitters : ℕ) (world : WorldState) (event : Event) → length world.mailboxes ≤ submitters → is_push event ≡ false
    → is_some (moved world event) ≡ true → is_step_of submitters event ≡ true
a_step submitters world (Push ticket) few unpushed is = cc
a_step submitters world (ReplyPop own) few unpushed is = by (mailbox_at world.mailboxes own).ring refl is
  where
    by : (ring : List ReplyValue) → (mailbox_at world.mailboxes own).ring ≡ ring →
        is_some (reply_pop world own (after_pop_of (mailbox_at world.mailboxes own) ring)) ≡ true
        → is_step_of submitters (ReplyPop own) ≡ true
    by [] ring_is is = cc
    by (reply ∷ ring) ring_is is =
        lt-ltb _ submitters (omega (arith, few, is_among world.mailboxes own (omega (arith, ap length ring_is))))
a_step submitters world event few unpushed is = refl

-- ---- whatever the room that steps find

module _ (room : WorldState → Event → Bool)
    (same_room : (world : WorldState) (event other : Event) → is_same_step event other ≡ true
    → room world event ≡ room world other)
    (moves : (world : WorldState) → (left world ≡ 0) ⊎ MovesWithin room world) where
  same_within : (world : WorldState) (event other : Event) → is_same_step event other ≡ true
      → is_some (moved_within room world event) ≡ true → is_some (moved_within room world other) ≡ true
  same_within world event other same is =
      let parts = within_parts (room world event) (moved world event) is in
      let has : room world other ≡ true = sym (same_room world event other same) ∙ parts.0 in
      rw has (same_moves world event other same parts.1)

  steps_within : (world : WorldState) (event : Event) → is_push event ≡ false → Steps world (moved_within room world event)
  steps_within world event unpushed = by (room world event)
    where
      by : (b : Bool) → Steps world (if b then moved world event else None)
      by true = steps world event unpushed
      by false = tt

  -- no more is left, and there are as many mailboxes
  record NoMore (world next : WorldState) : Type 0 where
    few : left next ≤ left world
    long : length next.mailboxes ≡ length world.mailboxes

  after_step : (world : WorldState) (after : Option WorldState) → Steps world after → NoMore world (unwrap_or after world)
  after_step world None step = record { few = omega arith; long = refl }
  after_step world (Some next) step = record { few = omega (arith, step.fewer); long = step.long }

  never_more : (world : WorldState) (events : List Event) → list_any is_push events ≡ false
      → NoMore world (run_within room world events)
  never_more world [] unpushed = record { few = omega arith; long = refl }
  never_more world (event ∷ events) unpushed =
      let none = or_parts (is_push event) (list_any is_push events) unpushed in
      let after = moved_within room world event in
      let first = after_step world after (steps_within world event none.0) in
      let others = never_more (unwrap_or after world) events none.1 in
      record { few = omega (arith, first.few, others.few); long = others.long ∙ first.long }

  -- an event that moves still does after one of another actor that doesn't
  later : {same : Bool} (world : WorldState) (event other : Event) (events : List Event)
      → is_some (moved_within room world event) ≡ true → is_same_step event other ≡ same
      → moved_within room world other ≡ None → (same || list_any (is_same_step event) events) ≡ true
      → list_any (is_same_step event) events ≡ true
  later {same = false} world event other events moves is stays among = among
  later {same = true} world event other events moves is stays among =
      let moves_too : is_some (moved_within room world other) ≡ true = same_within world event other is moves in
      let stays_too : is_some (moved_within room world other) ≡ false =
      ap (λ (after : Option WorldState). is_some after) stays in
      cc

  -- the first event of a round moves, or the others lead on from the same World
  first_of_round : (world : WorldState) (first : Event) (events : List Event) (after : Option WorldState)
      → moved_within room world first ≡ after → Steps world after → list_any is_push events ≡ false
      → (moved_within room world first ≡ None → left (run_within room world events) < left world)
      → left (run_within room (unwrap_or after world) events) < left world
  first_of_round world first events (Some next) is step unpushed others =
      omega (arith, step.fewer, (never_more next events unpushed).few)
  first_of_round world first events None is step unpushed others = others is

  round_falls : (world : WorldState) (event : Event) (events : List Event) → list_any is_push events ≡ false
      → is_some (moved_within room world event) ≡ true → list_any (is_same_step event) events ≡ true
      → left (run_within room world events) < left world
  round_falls world event [] unpushed moves among = cc
  round_falls world event (first ∷ events) unpushed moves among =
      let none = or_parts (is_push first) (list_any is_push events) unpushed in
      first_of_round world first events (moved_within room world first) refl (steps_within world first none.0) none.1
      (λ stays. round_falls world event events none.1 moves
      (later world event first events moves refl stays among))

  run_more : (world : WorldState) (xs ys : List Event) → run_within room world (xs ++ ys)
      ≡ run_within room (run_within room world xs) ys
  run_more world [] ys = refl
  run_more world (x ∷ xs) ys = run_more (unwrap_or (moved_within room world x) world) xs ys

  rounds_fall : (submitters : ℕ) (world : WorldState) (rounds : List (List Event)) → length world.mailboxes ≤ submitters
      → AllByRecursion (IsRound submitters) rounds → left world ≤ length rounds → left (run_within room world (all_of rounds)) ≡ 0
  rounds_fall submitters world [] few all enough = omega (arith, enough)
  rounds_fall submitters world (round ∷ rounds) few all enough =
      let others = never_more world round all.0.no_push in
      ap left (run_more world round (all_of rounds))
      ∙ rounds_fall submitters (run_within room world round) rounds (omega (arith, few, others.long)) all.1 (by (moves world))
    where
      by : (left world ≡ 0) ⊎ MovesWithin room world → left (run_within room world round) ≤ length rounds
      by (inl none) = omega (arith, none, (never_more world round all.0.no_push).few)
      by (inr moving) =
          let parts = within_parts (room world moving.0) (moved world moving.0) moving.2 in
          omega (
            arith,
            enough,
            round_falls world moving.0 round all.0.no_push moving.2
                (all.0.all moving.0 (a_step submitters world moving.0 few moving.1 parts.1)),
          )

  pub rounds_rest : (submitters : ℕ) (world : WorldState) (rounds : List (List Event)) → length world.mailboxes ≤ submitters
      → AllByRecursion (IsRound submitters) rounds → left world ≤ length rounds → IsAtRest (run_within room world (all_of rounds))
  rounds_rest submitters world rounds few all enough =
      rests (run_within room world (all_of rounds)) (rounds_fall submitters world rounds few all enough)

-- ---- rings with bounds

same_room : (slots credit : ℕ) (world : WorldState) (event other : Event) → is_same_step event other ≡ true
    → has_room slots credit world event ≡ has_room slots credit world other
same_room slots credit world (Pop refused) (Pop other) same = refl
same_room slots credit world BatchPush BatchPush same = refl
same_room slots credit world (BatchPop refused) (BatchPop other) same = refl
same_room slots credit world OutcomePush OutcomePush same = refl
same_room slots credit world OutcomePop OutcomePop same = refl
same_room slots credit world ReplyPush ReplyPush same = refl
same_room slots credit world (ReplyPop own) (ReplyPop other) same = refl
same_room slots credit world event other same = cc

pub fair_lists_rest : FairListsRest
fair_lists_rest slots credit submitters world rounds some_slots some_credit =
    rounds_rest (has_room slots credit) (same_room slots credit)
    (moves_within slots credit some_slots some_credit) submitters world rounds

-- ---- there are rounds

reads : (n own : ℕ) → own < n → list_any (is_same_step (ReplyPop own)) (readers n) ≡ true
reads zero own below = absurd (omega (arith, below))
reads (suc n) own below =
    ⊎_elim (λ (same : own ≡ n). rw (eq-eqb own n same) refl)
    (λ (other : own ≢ n). rw (ne_eqb own n other) (reads n own (omega (arith, below, other))))
    (cases_eq own n)

no_push : (n : ℕ) → list_any is_push (readers n) ≡ false
no_push zero = refl
no_push (suc n) = no_push n

among : (submitters : ℕ) (event : Event) → is_step_of submitters event ≡ true
    → list_any (is_same_step event) (one_round submitters) ≡ true
among submitters (Push ticket) is = cc
among submitters (Pop refused) is = refl
among submitters BatchPush is = refl
among submitters (BatchPop refused) is = refl
among submitters OutcomePush is = refl
among submitters OutcomePop is = refl
among submitters ReplyPush is = refl
among submitters (ReplyPop own) is = reads submitters own (omega (arith, ltb-true _ submitters is))

pub one_round_is_a_round : OneRoundIsARound
one_round_is_a_round submitters = record { all = among submitters; no_push = no_push submitters }
