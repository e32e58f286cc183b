-- Steps that end at rest, and rounds after any events.
use Rattle.std.proofs.Common.{refl, sym, ap, subst, ◌∙◌, arith, ◌≡◌, ◌⊎◌, inl, inr, ℕ, zero, suc, add-one, ◌+◌, ◌*◌, ◌<◌, ◌≤◌, Bool, true, false, ◌&&◌, List, [], ◌∷◌, ◌++◌, length, length-append, append-nil, append_assoc, sum_by, replicate, Option, Some, None, is_some, unwrap_or}
use Rattle.tb_world.proofs.Words.{if◌then◌else◌, list_any, AllByRecursion, or_parts, length-replicate, list_any-append, sum_by-cons, Ticket, all_ended, Event, Push, empty_mailbox, WorldState, is_lawful, senders_after, moved, after_event, run, world_over, IsAtRest, is_push, is_refused, pushed_at, history, HasRun, IsLawfulAtRest, LedgerState, unread, left, left_of_last, MayMove, HasFinished, HasRested, IsRound, all_of, has_room, run_within, LeftIsBounded, EachStepCounts, FairRunsAreAnswered}
use Rattle.tb_world.proofs.orders.Lawful.{run_more, runs_go_on}
use Rattle.tb_world.proofs.progress.Steps.{Steps, steps}
use Rattle.tb_world.proofs.progress.Rests.{MovesWithin, within_parts, moves_within, rests, ends}
use Rattle.tb_world.proofs.progress.Rounds.{rounds_rest}

-- ---- one event

falls : (world next : WorldState) (event : Event) → is_push event ≡ false → moved world event ≡ Some next → left next < left world
falls world next event unpushed leads =
    (subst (λ (after : Option WorldState). Steps world after) leads (steps world event unpushed)).fewer

push_adds : (world next : WorldState) (ticket : Ticket) → moved world (Push ticket) ≡ Some next → left next ≡ left world + 7
push_adds world next ticket leads = by (is_lawful world ticket) leads
  where
    by : (b : Bool) → (if b then Some (record world {
      senders = senders_after world.senders ticket;
      queue = world.queue ++ ticket ∷ [];
    }) else None) ≡ Some next → left next ≡ left world + 7
    by true is =
        omega (
          arith,
          ap (λ (after : Option WorldState). left (unwrap_or after world)) is,
          length-append world.queue (ticket ∷ []),
        )
    by false is = cc

pub each_step_counts : EachStepCounts
each_step_counts = record { falls = falls; adds = push_adds; rests = rests; ends = ends }

-- ---- any events

-- an event adds at most seven for a ticket that it pushes, and there are as many mailboxes
record AddsSeven (world : WorldState) (pushed : List Ticket) (next : WorldState) : Type 0 where
  few : left next ≤ left world + 7 * length pushed
  long : length next.mailboxes ≡ length world.mailboxes

after_one : (world : WorldState) (event : Event) → AddsSeven world (pushed_at world event) (after_event world event)
after_one world (Push ticket) = by (is_lawful world ticket)
  where
    by : (b : Bool) → AddsSeven world (if b then ticket ∷ [] else []) (unwrap_or (if b then Some (record world {
      senders = senders_after world.senders ticket;
      queue = world.queue ++ ticket ∷ [];
    }) else None) world)
    by true = record { few = omega (arith, length-append world.queue (ticket ∷ [])); long = refl }
    by false = record { few = omega arith; long = refl }
after_one world event = by (moved world event) (steps world event refl)
  where
    by : (after : Option WorldState) → Steps world after → AddsSeven world [] (unwrap_or after world)
    by None step = record { few = omega arith; long = refl }
    by (Some next) step = record { few = omega (arith, step.fewer); long = step.long }

after_all : (world : WorldState) (events : List Event) → AddsSeven world (history world events) (run world events)
after_all world [] = record { few = omega arith; long = refl }
after_all world (event ∷ events) =
    let first = after_one world event in
    let others = after_all (after_event world event) events in
    record {
      few = omega (
        arith,
        first.few,
        others.few,
        length-append (pushed_at world event) (history (after_event world event) events),
      );
      long = others.long ∙ first.long;
    }

none_unread : (n : ℕ) → sum_by unread (replicate n empty_mailbox) ≡ 0
none_unread zero = refl
none_unread (suc n) = sum_by-cons unread empty_mailbox (replicate n empty_mailbox) ∙ omega (arith, none_unread n)

new_left : (start : LedgerState) (limit submitters : ℕ) → left (world_over start limit submitters) ≡ 0
new_left start limit submitters = omega (arith, none_unread submitters, last)
  where
    last : left_of_last (all_ended (world_over start limit submitters).front && true) ≡ 0
    last = rw add-one refl

pub left_is_bounded : LeftIsBounded
left_is_bounded start limit submitters events =
    omega (arith, new_left start limit submitters, (after_all (world_over start limit submitters) events).few)

history_more : (world : WorldState) (xs ys : List Event) → history world (xs ++ ys) ≡ history world xs ++ history (run world xs) ys
history_more world [] ys = refl
history_more world (x ∷ xs) ys =
    ap (λ (tickets : List Ticket). pushed_at world x ++ tickets) (history_more (after_event world x) xs ys)
    ∙ sym (append_assoc (pushed_at world x) (history (after_event world x) xs) (history (run (after_event world x) xs) ys))

none_pushed : (world : WorldState) (event : Event) → is_push event ≡ false → pushed_at world event ≡ []
none_pushed world (Push ticket) unpushed = cc
none_pushed world event unpushed = refl

no_history : (world : WorldState) (steps : List Event) → list_any is_push steps ≡ false → history world steps ≡ []
no_history world [] unpushed = refl
no_history world (event ∷ steps) unpushed =
    let none = or_parts (is_push event) (list_any is_push steps) unpushed in
    rw (none_pushed world event none.0, no_history (after_event world event) steps none.1) refl

history_same : (world : WorldState) (events steps : List Event) → list_any is_push steps ≡ false
    → history world (events ++ steps) ≡ history world events
history_same world events steps unpushed =
    history_more world events steps
    ∙ ap (λ (more : List Ticket). history world events ++ more) (no_history (run world events) steps unpushed)
    ∙ append-nil (history world events)

-- ---- steps so far

pub record SoFar (old new : WorldState) : Type 0 where
  pub steps : List Event
  pub leads : new ≡ run old steps
  pub no_push : list_any is_push steps ≡ false
  pub unrefused : list_any is_refused steps ≡ false
  pub few : length steps + left new ≤ left old

pub moving_falls : (world : WorldState) (event : Event) → MayMove world event → left (after_event world event) < left world
moving_falls world event may = by (moved world event) (steps world event may.no_push) may.moves
  where
    by : (after : Option WorldState) → Steps world after → is_some after ≡ true → left (unwrap_or after world) < left world
    by None step some = cc
    by (Some next) step some = step.fewer

none_more : (test : Event → Bool) (steps : List Event) (event : Event) → list_any test steps ≡ false
    → test event ≡ false → list_any test (steps ++ event ∷ []) ≡ false
none_more test steps event none one = rw (list_any-append test steps (event ∷ []), none, one) refl

pub one_more : (old world : WorldState) (event : Event) → SoFar old world → MayMove world event → SoFar old (after_event world event)
one_more old world event far may = record {
  steps = far.steps ++ event ∷ [];
  leads = ap (λ (world : WorldState). after_event world event) far.leads ∙ sym (run_more old far.steps (event ∷ []));
  no_push = none_more is_push far.steps event far.no_push may.no_push;
  unrefused = none_more is_refused far.steps event far.unrefused may.unrefused;
  few = omega (arith, far.few, moving_falls world event may, length-append far.steps (event ∷ []));
}

pub has_finished : (old new : WorldState) → SoFar old new → left new ≡ 0 → HasFinished old new
has_finished old new far none = record {
  steps = far.steps;
  leads = far.leads;
  no_push = far.no_push;
  unrefused = far.unrefused;
  few = omega (arith, far.few);
  rest = rests new none;
}

-- ---- rounds

abbrev always : WorldState → Event → Bool
always world event = true

run_always : (world : WorldState) (events : List Event) → run_within always world events ≡ run world events
run_always world [] = refl
run_always world (event ∷ events) = run_always (after_event world event) events

moves_always : (world : WorldState) → (left world ≡ 0) ⊎ MovesWithin always world
moves_always world = by (moves_within 1 1 (omega arith) (omega arith) world)
  where
    by : (left world ≡ 0) ⊎ MovesWithin (has_room 1 1) world → (left world ≡ 0) ⊎ MovesWithin always world
    by (inl none) = inl none
    by (inr moving) =
        inr (moving.0, moving.1, (within_parts (has_room 1 1 world moving.0) (moved world moving.0) moving.2).1)

rounds_push_nothing : (submitters : ℕ) (rounds : List (List Event)) → AllByRecursion (IsRound submitters) rounds
    → list_any is_push (all_of rounds) ≡ false
rounds_push_nothing submitters [] all = refl
rounds_push_nothing submitters (round ∷ rounds) all =
    rw (list_any-append is_push round (all_of rounds), all.0.no_push, rounds_push_nothing submitters rounds all.1) refl

-- ---- runs over a ledger

module _ (start : LedgerState) (limit submitters : ℕ) (events : List Event) where
  abbrev begin : WorldState
  begin = world_over start limit submitters

  pub has_rested : (old world : WorldState) → HasRun start limit submitters events old → HasFinished old world
      → HasRested start limit submitters events world
  has_rested old world ran finished =
      let same = history_same begin events finished.steps finished.no_push in
      let further = subst (HasRun start limit submitters (events ++ finished.steps)) (sym finished.leads)
      (runs_go_on start limit submitters events finished.steps old ran) in
      record {
        steps = finished.steps;
        ran = further;
        no_push = finished.no_push;
        none_more = same;
        unrefused = finished.unrefused;
        few = omega (arith, finished.few, ap left ran.is, left_is_bounded start limit submitters events);
        rest = finished.rest;
        answered = subst (λ (queue : List Ticket). IsLawfulAtRest start submitters queue world) same (further.at_rest finished.rest);
      }

  answered : (rounds : List (List Event)) (world : WorldState) → AllByRecursion (IsRound submitters) rounds
      → 7 * length (history begin events) ≤ length rounds → HasRun start limit submitters (events ++ all_of rounds) world
      → IsLawfulAtRest start submitters (history begin events) world
  answered rounds world all enough ran =
      let middle = run begin events in
      let long : length middle.mailboxes ≤ submitters =
      omega (arith, (after_all begin events).long, length-replicate submitters empty_mailbox) in
      let same : run_within always middle (all_of rounds) ≡ world =
      run_always middle (all_of rounds) ∙ sym (ran.is ∙ run_more begin events (all_of rounds)) in
      let rest : IsAtRest world =
      subst IsAtRest same (rounds_rest always (λ world event other is. refl) moves_always submitters middle rounds long all
      (omega (arith, enough, left_is_bounded start limit submitters events))) in
      subst (λ (queue : List Ticket). IsLawfulAtRest start submitters queue world)
      (history_same begin events (all_of rounds) (rounds_push_nothing submitters rounds all)) (ran.at_rest rest)

pub fair_runs_are_answered : FairRunsAreAnswered
fair_runs_are_answered = answered
