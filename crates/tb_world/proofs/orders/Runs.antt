-- Every order of steps: what holds of a World after a list of events.
use Rattle.std.proofs.Common.{refl, sym, ap, subst, ◌∙◌, arith, ◌≡◌, ℕ, ◌+◌, ◌^◌, ◌≤◌, Bool, true, false, List, [], ◌∷◌, ◌++◌, length, append_assoc, append-nil, length-append, replicate, None}
use Rattle.tb_world.proofs.Words.{if◌then◌else◌, list_any, get_or-replicate, length-replicate, length-map, map-append, le-ltb, or_parts, ahead, items_in, input_of, Item, Ticket, Parcel, Event, Push, Pop, BatchPush, BatchPop, OutcomePush, OutcomePop, ReplyPush, ReplyPop, inputs_in, decisions_in, LedgerState, inputs, inputs_since, Commits, Applied, must_stop, apply_step, newcomer, Mailbox, empty_mailbox, mailbox_at, WorldState, is_lawful, after_event, run, world_over, pushed_at, history, is_refused, HasPlaces, ahead-first, inputs_in-append, inputs_in-admitted, so_far}
use Rattle.tb_work.specs.declared.item.Item.TheVariants as item
use Rattle.tb_core.specs.declared.parcel.Parcel.TheVariants as parcel
use Rattle.tb_core.proofs.Since.{cancel, inputs-parts}
use Rattle.tb_world.proofs.orders.Pushed.{none_pushed}
use Rattle.tb_world.proofs.orders.Holding.{on_the_way, Holds, NextIsApplied, push_holds, pop_holds, batch_push_holds, batch_pop_holds, outcome_push_holds, outcome_pop_holds, reply_push_holds, reply_pop_holds}

-- ---- if nothing was refused the next parcel is committed: there is a place for each that is ahead

fewer_places : (start : LedgerState) (queue others : List Ticket) → HasPlaces start (queue ++ others) → HasPlaces start queue
fewer_places start queue others room =
    let more = ahead-first (items_in queue) (items_in others) in
    omega (
      arith,
      room,
      length-append (ahead (items_in queue)) more.0,
      ap length (more.1 ∙ ap ahead (sym (map-append (λ (ticket : Ticket). ticket.item) queue others))),
    )

goes_on : (ledger : LedgerState) (handed : Parcel) → ledger.stopped ≡ false
    → length (inputs ledger) + length (inputs_in (decisions_in handed)) ≤ 2 ^ 63
    → (apply_step false ledger handed).ledger.stopped ≡ false
goes_on ledger handed goes room = by handed room
  where
    committed : (count : ℕ) (x y : Applied) → length (inputs ledger) + count ≤ 2 ^ 63 → y.ledger.stopped ≡ false
        → (if must_stop false ledger count then x else y).ledger.stopped ≡ false
    committed count x y room on = rw (goes, le-ltb (2 ^ 63) (length (inputs ledger) + count) room) on

    by : (handed : Parcel) → length (inputs ledger) + length (inputs_in (decisions_in handed)) ≤ 2 ^ 63
        → (apply_step false ledger handed).ledger.stopped ≡ false
    by (parcel.Batch jobs) room =
        committed (length jobs) _ _ (omega (arith, room, ap length (inputs_in-admitted jobs), length-map jobs input_of)) goes
    by (parcel.Pulse moment) room = committed 1 _ _ room goes
    by handed room = goes

module _ {Unrefused : Type 0} {start : LedgerState} {submitters : ℕ} {pushed : List Ticket} {world : WorldState}
    (holds : Holds Unrefused start submitters pushed world) (room : Unrefused → HasPlaces start pushed) where
  parcel_goes : (refused : Bool) → (Unrefused → refused ≡ false) → NextIsApplied Unrefused refused world
  parcel_goes refused unrefused = λ is handed batches batches_are.
      let on_way = on_the_way world.front world.parcels world.batches in
      let rest = on_the_way world.front world.parcels batches in
      let way : inputs_in on_way ≡ inputs_in (decisions_in handed)
      ++ inputs_in rest =
      rw batches_are (ap inputs_in (append_assoc (decisions_in handed) _ _) ∙ inputs_in-append (decisions_in handed) rest) in
      let far = so_far on_way holds.sent.passes holds.commits in
      let all = far.whole (holds.goes is).front (holds.goes is).ledger in
      let few : HasPlaces start holds.taken = fewer_places start holds.taken world.queue
      (subst (HasPlaces start) holds.split (room is)) in
      let since = inputs_since start world.ledger in
      let places : length (inputs world.ledger) + length (inputs_in (decisions_in handed))
      ≤ 2 ^ 63 =
      omega (
        arith,
        few,
        ap length (inputs-parts start world.ledger holds.commits.continues),
        length-append (inputs start) since,
        ap length way,
        length-append (inputs_in (decisions_in handed)) (inputs_in rest),
        ap length all,
        length-append since (inputs_in on_way),
      ) in
      subst (λ b. (apply_step b world.ledger handed).ledger.stopped ≡ false) (sym (unrefused is))
      (goes_on world.ledger handed (holds.goes is).ledger places)

  event_holds : (event : Event) → (Unrefused → is_refused event ≡ false)
      → Holds Unrefused start submitters (pushed ++ pushed_at world event) (after_event world event)
  event_holds (Push ticket) unrefused = push_holds holds ticket (is_lawful world ticket) refl
  event_holds (Pop refused) unrefused = rw append-nil (pop_holds holds refused world.parcels world.queue refl refl unrefused)
  event_holds BatchPush unrefused = rw append-nil (batch_push_holds holds world.parcels world.front.held refl refl)
  event_holds (BatchPop refused) unrefused =
      rw append-nil (batch_pop_holds holds refused world.outcome world.batches refl refl (parcel_goes refused unrefused))
  event_holds OutcomePush unrefused = rw append-nil (outcome_push_holds holds world.outcome refl)
  event_holds OutcomePop unrefused = rw append-nil (outcome_pop_holds holds world.replies world.outcomes refl refl)
  event_holds ReplyPush unrefused = rw append-nil (reply_push_holds holds world.replies refl)
  event_holds (ReplyPop own) unrefused = rw append-nil (reply_pop_holds holds own (mailbox_at world.mailboxes own).ring refl)

-- ---- a list of events

run_holds : {Unrefused : Type 0} {start : LedgerState} {submitters : ℕ} (pushed : List Ticket) (world : WorldState)
    (events : List Event) → (Unrefused → list_any is_refused events ≡ false)
    → (Unrefused → HasPlaces start (pushed ++ history world events)) → Holds Unrefused start submitters pushed world
    → Holds Unrefused start submitters (pushed ++ history world events) (run world events)
run_holds pushed world [] unrefused room holds = rw append-nil holds
run_holds {Unrefused} {start} {submitters} pushed world (event ∷ events) unrefused room holds =
    let others = history (after_event world event) events in
    let list : (pushed ++ pushed_at world event) ++ others
    ≡ pushed ++ (pushed_at world event ++ others) = append_assoc pushed (pushed_at world event) others in
    subst (λ l. Holds Unrefused start submitters l (run (after_event world event) events)) list
    (run_holds (pushed ++ pushed_at world event) (after_event world event) events
    (λ is. (or_parts (is_refused event) (list_any is_refused events) (unrefused is)).1)
    (λ is. subst (HasPlaces start) (sym list) (room is))
    (event_holds holds (λ is. fewer_places start pushed (pushed_at world event ++ others) (room is)) event
    (λ is. (or_parts (is_refused event) (list_any is_refused events) (unrefused is)).0)))

pub length-ahead : (items : List Item) → length (ahead items) ≤ length items
length-ahead [] = omega arith
length-ahead (item.Packet job ∷ items) = omega (arith, length-ahead items)
length-ahead (x ∷ items) = omega (arith, length-ahead items)

-- at most one ticket an event
pub length-history : (world : WorldState) (events : List Event) → length (history world events) ≤ length events
length-history world [] = omega arith
length-history world (event ∷ events) =
    omega (
      arith,
      length-append (pushed_at world event) (history (after_event world event) events),
      length-history (after_event world event) events,
      one event,
    )
  where
    by : (b : Bool) (ticket : Ticket) → length (if b then ticket ∷ [] else []) ≤ 1
    by true ticket = omega arith
    by false ticket = omega arith

    one : (event : Event) → length (pushed_at world event) ≤ 1
    one (Push ticket) = by (is_lawful world ticket) ticket
    one event = omega arith

opened_holds : (Unrefused : Type 0) (start : LedgerState) (limit submitters : ℕ) → Commits start [] start []
    → Holds Unrefused start submitters [] (world_over start limit submitters)
opened_holds Unrefused start limit submitters began = record {
  taken = [];
  applied = [];
  answers = [];
  split = refl;
  counted = refl;
  senders = none_pushed submitters (replicate (submitters + 1) newcomer) (length-replicate (submitters + 1) newcomer)
      (λ sender among. get_or-replicate (submitters + 1) sender newcomer newcomer (omega (arith, among)));
  sent = record {
    passes = record { stop = None; all = refl; shut = refl; stops = refl; at_packet = tt };
    clear = λ e. refl;
    parcel_jobs = tt;
    batch_jobs = tt;
  };
  commits = began;
  routed = record {
    long = length-replicate submitters empty_mailbox;
    each = λ submitter among. sym (ap (λ (mailbox : Mailbox). mailbox.received ++ (mailbox.ring ++ []))
        (get_or-replicate submitters submitter empty_mailbox empty_mailbox among));
  };
  goes = λ is. record { front = refl; ledger = goes_on_from };
}
  where
    goes_on_from : start.stopped ≡ false
    goes_on_from = began.unstopped (cancel (inputs start) began.remainder [] began.committed)

-- no allocation failed, and there are places for all
abbrev pub GoesOn : LedgerState → List Event → List Ticket → Type 0
GoesOn start es queue = (list_any is_refused es ≡ false) × HasPlaces start queue

pub all_holds : (start : LedgerState) (limit submitters : ℕ) (events : List Event) → Commits start [] start []
    → Holds (GoesOn start events (history (world_over start limit submitters) events)) start submitters
    (history (world_over start limit submitters) events) (run (world_over start limit submitters) events)
all_holds start limit submitters events began =
    let Unrefused = GoesOn start events (history (world_over start limit submitters) events) in
    run_holds [] (world_over start limit submitters) events (λ is. is.0) (λ is. is.1)
    (opened_holds Unrefused start limit submitters began)
