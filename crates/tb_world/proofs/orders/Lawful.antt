-- The reports of a World: so far, if nothing was refused, and at rest.
use Rattle.std.proofs.Common.{refl, sym, ap, subst, ◌∙◌, ◌≡◌, ℕ, ◌<◌, ◌==◌, false, List, [], ◌∷◌, ◌++◌, map, length, append_assoc, append-nil, Option, Some, None}
use Rattle.tb_world.proofs.Words.{map-append, Input, Numbered, ReplyValue, ahead, items_in, Item, Ticket, Outcomes, Parcel, Event, Pop, BatchPush, BatchPop, OutcomePush, OutcomePop, ReplyPush, ReplyPop, outcome_at, reply_due, all_due_from, all_due, replies_to, Place, Ahead, next_place, inputs_in, Decision, Admitted, AreDecisions, all_decisions_in, held_by, LedgerState, inputs, inputs_since, Commits, Ran, Mailbox, mailbox_at, after_pop_of, WorldState, pop, batch_push, batch_pop, outcome_push, outcome_pop, reply_push, reply_pop, received_of, after_event, run, world_over, IsPrefix, history, IsAtRest, IsLawfulSoFar, NoneStopped, IsLawfulAtRest, FollowsOn, run_of, HasRun, RunsGoOn, WorldsFollow, is-prefix-trans, prefix-filter, ahead-first, none_of_first, none_among, SoFar, so_far, run_is_lawful}
use Rattle.tb_world.proofs.orders.Pushed.{numbered_by, queue_of_all}
use Rattle.tb_world.proofs.orders.Holding.{on_the_way, unrouted, of_all, of_one, shelved, Holds, Goes}
use Rattle.tb_world.proofs.orders.Runs.{GoesOn, all_holds}

-- ---- prefixes

due-prefix : (clock : ℕ) (journal : List Input) (place : Place) (items others : List Item)
    → IsPrefix (all_due_from clock journal place items) (all_due_from clock journal place (items ++ others))
due-prefix clock journal place [] others = (all_due_from clock journal place others, refl)
due-prefix clock journal place (item ∷ items) others =
    let first = reply_due (outcome_at clock journal place) item in
    let more = due-prefix clock journal (next_place place item) items others in (
      more.0,
      append_assoc first (all_due_from clock journal (next_place place item) items) more.0 ∙ ap (λ rs. first ++ rs) more.1,
    )

-- ---- so far

module _ {Unrefused : Type 0} {start : LedgerState} {submitters : ℕ} {pushed : List Ticket} {world : WorldState}
    (holds : Holds Unrefused start submitters pushed world) where
  abbrev way : List Decision
  way = on_the_way world.front world.parcels world.batches

  far : SoFar start (items_in holds.taken) world.front.stopped world.ledger holds.answers way
  far = so_far way holds.sent.passes holds.commits

  items_are : items_in pushed ≡ items_in holds.taken ++ items_in world.queue
  items_are = ap items_in holds.split ∙ map-append (λ (ticket : Ticket). ticket.item) holds.taken world.queue

  abbrev due_to : List Item → List ReplyValue
  due_to items = all_due start.opening (length (inputs start)) items (inputs world.ledger)

  pub far_prefix : IsPrefix holds.answers (due_to (items_in pushed))
  far_prefix =
      let before = items_in holds.taken in
      let after = items_in world.queue in
      rw items_are (is-prefix-trans holds.answers (due_to before) (due_to (before ++ after)) (far.later, far.due)
      (due-prefix start.opening (inputs world.ledger) (Ahead (length (inputs start))) before after))

  is_lawful_so_far : IsLawfulSoFar start submitters pushed world
  is_lawful_so_far =
      let before = items_in holds.taken in
      let after = items_in world.queue in
      record {
        opening = holds.commits.from;
        continues = holds.commits.continues;
        submitted = holds.senders.submitted;
        numbered = numbered_by submitters pushed world.senders holds.senders;
        committed = rw items_are (is-prefix-trans (inputs_since start world.ledger) (ahead before) (ahead (before ++ after))
            (far.remainder, far.committed) (ahead-first before after));
        received = λ submitter among.
            let mailbox = mailbox_at world.mailboxes submitter in
            let others = mailbox.ring ++ replies_to (unrouted world.replies world.outcomes world.outcome) submitter in
            is-prefix-trans mailbox.received (replies_to holds.answers submitter) (replies_to (due_to (items_in pushed)) submitter)
            (others, sym (holds.routed.each submitter among))
            (prefix-filter (λ (reply : ReplyValue). reply.packet.submitter == submitter) holds.answers
            (due_to (items_in pushed)) far_prefix);
      }

  none_stopped : Goes world.front world.ledger → NoneStopped submitters world
  none_stopped goes = λ submitter among.
      let mailbox = mailbox_at world.mailboxes submitter in
      let others = mailbox.ring ++ replies_to (unrouted world.replies world.outcomes world.outcome) submitter in
      none_of_first mailbox.received others (replies_to holds.answers submitter) (sym (holds.routed.each submitter among))
      (none_among (λ (reply : ReplyValue). reply.packet.submitter == submitter) holds.answers
      (far.no_stop_seen goes.front goes.ledger))

-- ---- at rest

no_parcels : (w : WorldState) (parcels : List Parcel) (held : List Numbered) → batch_push w parcels held ≡ None
    → (parcels ≡ []) × (held ≡ [])
no_parcels w (p ∷ parcels) held h = cc
no_parcels w [] (job ∷ jobs) h = cc
no_parcels w [] [] h = (refl, refl)

no_queue : (w : WorldState) (parcels : List Parcel) (queue : List Ticket) → parcels ≡ []
    → pop false w parcels queue ≡ None → queue ≡ []
no_queue w (p ∷ parcels) queue e h = cc
no_queue w [] [] e h = refl
no_queue w [] (ticket ∷ queue) e h = cc

no_outcome : (w : WorldState) (outcome : Option Outcomes) → outcome_push w outcome ≡ None → outcome ≡ None
no_outcome w None h = refl
no_outcome w (Some outcome) h = cc

no_batches : (w : WorldState) (outcome : Option Outcomes) (batches : List Parcel) → outcome ≡ None
    → batch_pop false w outcome batches ≡ None → batches ≡ []
no_batches w (Some outcome) batches e h = cc
no_batches w None [] e h = refl
no_batches w None (p ∷ batches) e h = cc

no_replies : (w : WorldState) (replies : List ReplyValue) → reply_push w replies ≡ None → replies ≡ []
no_replies w [] h = refl
no_replies w (reply ∷ replies) h = cc

no_outcomes : (w : WorldState) (replies : List ReplyValue) (outcomes : List Outcomes) → replies ≡ []
    → outcome_pop w replies outcomes ≡ None → outcomes ≡ []
no_outcomes w (reply ∷ replies) outcomes e h = cc
no_outcomes w [] [] e h = refl
no_outcomes w [] (outcome ∷ outcomes) e h = cc

no_ring : (w : WorldState) (own : ℕ) (mailbox : Mailbox) (ring : List ReplyValue)
    → reply_pop w own (after_pop_of mailbox ring) ≡ None → ring ≡ []
no_ring w own mailbox [] h = refl
no_ring w own mailbox (reply ∷ ring) h = cc

-- stages, queue and rings are empty
record IsEmpty (w : WorldState) : Type 0 where
  queue : w.queue ≡ []
  way : on_the_way w.front w.parcels w.batches ≡ []
  unrouted : unrouted w.replies w.outcomes w.outcome ≡ []
  rings : (own : ℕ) → (mailbox_at w.mailboxes own).ring ≡ []

empty_at_rest : (world : WorldState) → IsAtRest world → IsEmpty world
empty_at_rest world rest =
    let batcher = no_parcels world world.parcels world.front.held (rest BatchPush refl) in
    let outcome = no_outcome world world.outcome (rest OutcomePush refl) in
    let replies = no_replies world world.replies (rest ReplyPush refl) in
    let batches = no_batches world world.outcome world.batches outcome (rest (BatchPop false) refl) in
    let outcomes = no_outcomes world world.replies world.outcomes replies (rest OutcomePop refl) in
    record {
      queue = no_queue world world.parcels world.queue batcher.0 (rest (Pop false) refl);
      way = ap (λ (l : List Parcel). all_decisions_in l ++ (all_decisions_in world.parcels ++ held_by world.front)) batches
          ∙ ap (λ (l : List Parcel). all_decisions_in l ++ held_by world.front) batcher.0
          ∙ ap (λ (l : List Numbered). map Admitted l) batcher.1;
      unrouted = ap (λ (l : List ReplyValue). l ++ (of_all world.outcomes ++ of_one world.outcome)) replies
          ∙ ap (λ (l : List Outcomes). of_all l ++ of_one world.outcome) outcomes ∙ ap of_one outcome;
      rings = λ own. (let mailbox = mailbox_at world.mailboxes own in
          no_ring world own mailbox mailbox.ring (rest (ReplyPop own) refl));
    }

module _ {Unrefused : Type 0} {start : LedgerState} {submitters : ℕ} {pushed : List Ticket} {world : WorldState}
    (holds : Holds Unrefused start submitters pushed world) (empty : IsEmpty world) where
  taken_all : holds.taken ≡ pushed
  taken_all = sym (holds.split ∙ ap (λ l. holds.taken ++ l) empty.queue ∙ append-nil holds.taken)

  ran : Ran start (items_in pushed) world.ledger holds.answers
  ran = record {
    closed = world.front.closed;
    stopped = world.front.stopped;
    decisions = holds.applied;
    passed = subst (λ (queue : List Ticket). AreDecisions
        (items_in queue) world.front.closed world.front.stopped holds.applied) taken_all
        (subst (AreDecisions (items_in holds.taken) world.front.closed world.front.stopped)
        (ap (λ l. holds.applied ++ l) empty.way ∙ append-nil holds.applied) holds.sent.passes);
    commits = holds.commits;
  }

  received_all : (submitter : ℕ) → submitter < submitters → received_of world submitter ≡ replies_to holds.answers submitter
  received_all submitter among =
      let received = received_of world submitter in
      sym (holds.routed.each submitter among ∙ ap (λ (way : List ReplyValue). shelved submitter world.mailboxes way) empty.unrouted
      ∙ ap (λ (ring : List ReplyValue). received ++ (ring ++ [])) (empty.rings submitter) ∙ append-nil received)

  rests : IsLawfulAtRest start submitters pushed world
  rests =
      let all : holds.answers ≡ due_to holds (items_in pushed) =
      (far holds).replied empty.way ∙ ap (λ (queue : List Ticket). due_to holds (items_in queue)) taken_all in
      record {
        received = λ submitter among. received_all submitter among ∙ ap (λ rs. replies_to rs submitter) all;
        reports = λ over. run_is_lawful _ start holds.answers
            (queue_of_all submitters pushed world.senders holds.senders over) refl ran received_all;
      }

  whole : Goes world.front world.ledger → inputs_since start world.ledger ≡ ahead (items_in pushed)
  whole goes =
      let is = far holds in
      sym (append-nil (inputs_since start world.ledger))
      ∙ ap (λ (l : List Decision). inputs_since start world.ledger ++ inputs_in l) (sym empty.way)
      ∙ is.whole goes.front goes.ledger ∙ ap (λ (queue : List Ticket). ahead (items_in queue)) taken_all

-- ---- a list of events

pub has_run : (start : LedgerState) (limit submitters : ℕ) (events : List Event) (world : WorldState) → Commits start [] start []
    → world ≡ run (world_over start limit submitters) events → HasRun start limit submitters events world
has_run start limit submitters events world began is = subst (HasRun start limit submitters events) (sym is) there
  where
    pushed : List Ticket
    pushed = history (world_over start limit submitters) events

    Unrefused : Type 0
    Unrefused = GoesOn start events pushed

    end : WorldState
    end = run (world_over start limit submitters) events

    holds : Holds Unrefused start submitters pushed end
    holds = all_holds start limit submitters events began

    there : HasRun start limit submitters events end
    there = record {
      began = began;
      is = refl;
      so_far = is_lawful_so_far holds;
      no_stop_seen = λ unrefused room. none_stopped holds (holds.goes (unrefused, room));
      at_rest = λ rest. rests holds (empty_at_rest end rest);
      whole = λ unrefused room rest. whole holds (empty_at_rest end rest) (holds.goes (unrefused, room));
    }

pub run_more : (world : WorldState) (xs ys : List Event) → run world (xs ++ ys) ≡ run (run world xs) ys
run_more world [] ys = refl
run_more world (x ∷ xs) ys = run_more (after_event world x) xs ys

pub runs_go_on : RunsGoOn
runs_go_on start limit submitters before events world ran =
    has_run start limit submitters (before ++ events) (run world events) ran.began
    (ap (λ (w : WorldState). run w events) ran.is ∙ sym (run_more (world_over start limit submitters) before events))

module _ (start : LedgerState) (submitters : ℕ) (queue : List Ticket) (first second : WorldState) (limit others : ℕ)
    (events : List Event) where
  follows : HasRun first.ledger limit others events second → FollowsOn (run_of start submitters queue first)
      (run_of first.ledger others (history (world_over first.ledger limit others) events) second)
  follows ran = record { opening = ran.so_far.opening; before = refl }

pub worlds_follow : WorldsFollow
worlds_follow = follows
