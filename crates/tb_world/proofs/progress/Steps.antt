-- Each step that is no push takes at least one from what is left, and a push adds seven.
use Rattle.std.proofs.Common.{refl, sym, ap, subst, arith, ◌≡◌, ◌≢◌, ⊎_elim, ℕ, ◌+◌, ◌*◌, ◌<◌, ◌≤◌, Bool, true, false, ◌&&◌, ◌||◌, not, List, [], ◌∷◌, ◌++◌, map, length, length-append, length-set, get_or-set_other, sum_by, set, Option, Some, None}
use Rattle.tb_world.proofs.Words.{if◌then◌else◌, IfSome, cond_both, cases_eq, cases_lt, length-map, get_or-set_same, set_past, get_or_past, sum_by-cons, sum_by-append, sum_by-set, Numbered, ReplyValue, input_of, Item, Ticket, Outcomes, Parcel, Input, Admitted, replies_from, FrontState, Taken, take_result, with_group, with_end, all_ended, group_as_batch, step_of_packet, step_of_pulse, take_step, LedgerState, inputs, Applied, apply_result, must_stop, with_stop, with_entry, step_of_batch, apply_step, replies_in, Event, Push, Pop, BatchPush, BatchPop, OutcomePush, OutcomePop, ReplyPush, ReplyPop, Mailbox, empty_mailbox, mailbox_at, with_reply, mailboxes_with, after_pop_of, WorldState, received_of, pop, batch_push, pending_of, batch_pop, outcome_push, outcome_pop, reply_push, reply_pop, moved, is_push, owed, left_of_parcel, left_of_pushed, left_of_last, left_of_outcome, left_of_outcomes, unread, left_of_batcher, left}
use Rattle.tb_work.specs.claim.Answer.{reply_with}
use Rattle.tb_work.specs.declared.item.Item.TheVariants as item
use Rattle.tb_work.specs.declared.outcome.Outcome.TheVariants as outcome
use Rattle.tb_batch.specs.claim.Grouping.{is_taken}
use Rattle.tb_core.specs.declared.outcomes.Outcomes.TheVariants as outcomes
use Rattle.tb_core.specs.declared.parcel.Cause.TheVariants.{Stopped}
use Rattle.tb_core.specs.declared.parcel.Parcel.TheVariants as parcel
use Rattle.tb_layout.specs.claim.Events as input

-- a step that is no push: less is left, who pushed what stays, and no submitter has received less
pub record IsStep (world next : WorldState) : Type 0 where
  pub fewer : left next < left world
  pub senders : next.senders ≡ world.senders
  pub long : length next.mailboxes ≡ length world.mailboxes
  pub received : (s : ℕ) → length (received_of world s) ≤ length (received_of next s)

-- if the World moved, it did by such a step
abbrev pub Steps : WorldState → Option WorldState → Type 0
Steps world after = IfSome after (λ next. IsStep world next)

-- a stage leaves senders and mailboxes as they are
of_stage : (world next : WorldState) → next.senders ≡ world.senders → next.mailboxes ≡ world.mailboxes → left next < left world
    → IsStep world next
of_stage world next senders mailboxes fewer = record {
  fewer = fewer;
  senders = senders;
  long = ap (λ (all : List Mailbox). length all) mailboxes;
  received = λ submitter. omega (arith, ap (λ (all : List Mailbox). length (mailbox_at all submitter).received) mailboxes);
}

-- ---- the batcher

abbrev left_then : Taken → Bool → ℕ
left_then taken sent = left_of_batcher taken.parcels taken.front.held (all_ended taken.front && not sent)

last_few : (b : Bool) → left_of_last b ≤ 4
last_few true = omega arith
last_few false = omega arith

group_and : (held : List Numbered) (others : List Parcel) → sum_by left_of_parcel (group_as_batch held ++ others)
    ≡ sum_by left_of_parcel (group_as_batch held) + sum_by left_of_parcel others
group_and held others = sum_by-append left_of_parcel (group_as_batch held) others

joined : (held : List Numbered) (job : Numbered) → sum_by left_of_parcel (group_as_batch (held ++ job ∷ []))
    ≤ 6 + sum_by left_of_parcel (group_as_batch held)
joined [] job = omega arith
joined (first ∷ held) job = omega (arith, length-append held (job ∷ []))

packet : (refused : Bool) (front : FrontState) (job : Numbered) (sent : Bool) →
    left_then (step_of_packet refused front job) sent ≤ 6 + left_of_batcher [] front.held (all_ended front && not sent)
packet refused front job sent =
    let Few : Taken → Type 0 = λ taken. left_then taken sent
    ≤ 6 + left_of_batcher [] front.held (all_ended front && not sent) in
    cond_both front.closed _ _ Few (λ _. omega arith) (λ _. cond_both front.stopped _ _ Few (λ _. omega arith)
    (λ _. cond_both refused _ _ Few (λ _. omega (arith, group_and front.held (parcel.Return job Stopped ∷ [])))
    (λ _. cond_both (is_taken front.limit front.held job) _ _ Few (λ _. omega (arith, joined front.held job))
    (λ _. omega arith))))

pulse : (b : Bool) (front : FrontState) (moment : ℕ) (sent : Bool) → (front.closed || front.stopped) ≡ b →
    left_then (step_of_pulse front moment) sent ≤ 6 + left_of_batcher [] front.held (all_ended front && not sent)
pulse true front moment sent is = rw is (omega arith)
pulse false front moment sent is = rw is (omega (arith, group_and front.held (parcel.Pulse moment ∷ [])))

end : (all : Bool) (front : FrontState) (sender : ℕ) (sent : Bool) →
    left_then (let next = with_end front sender in if all
    then take_result (with_group next []) (group_as_batch front.held) else take_result next []) sent
    ≤ 6 + left_of_batcher [] front.held (all_ended front && not sent)
end true front sender sent = omega (arith, last_few (all_ended (with_end front sender) && not sent))
end false front sender sent = omega (arith, last_few (all_ended (with_end front sender) && not sent))

taken_left : (refused : Bool) (front : FrontState) (sender : ℕ) (taken : Item) (sent : Bool) →
    left_then (take_step refused front sender taken) sent
    ≤ 6 + left_of_batcher [] front.held (all_ended front && not sent)
taken_left refused front sender (item.Packet job) sent =
    packet refused front job sent
taken_left refused front sender (item.Pulse moment) sent =
    pulse (front.closed || front.stopped) front moment sent refl
taken_left refused front sender item.End sent = end (all_ended (with_end front sender)) front sender sent
taken_left refused front sender item.Close sent =
    omega (arith, last_few (all_ended (with_end front sender) && not sent))

popped : (world : WorldState) (ticket : Ticket) (queue : List Ticket) (next : Taken) → world.parcels ≡ []
    → world.queue ≡ ticket ∷ queue →
    left_then next world.last_sent ≤ 6 + left_of_batcher [] world.front.held (all_ended world.front && not world.last_sent)
    → IsStep world (record world { queue = queue; front = next.front; parcels = next.parcels })
popped world ticket queue next parcels_are queue_is few =
    of_stage world _ refl refl
    (omega (arith, few, ap length queue_is, ap (λ (parcels : List Parcel). sum_by left_of_parcel parcels) parcels_are))

pop_steps : (refused : Bool) (world : WorldState) (parcels : List Parcel) (queue : List Ticket) → world.parcels ≡ parcels
    → world.queue ≡ queue → Steps world (pop refused world parcels queue)
pop_steps refused world [] (ticket ∷ queue) parcels_are queue_is =
    popped world ticket queue (take_step refused world.front ticket.sender ticket.item) parcels_are queue_is
    (taken_left refused world.front ticket.sender ticket.item world.last_sent)
pop_steps refused world [] [] parcels_are queue_is = tt
pop_steps refused world (parcel ∷ parcels) queue parcels_are queue_is = tt

none_due : (b : Bool) → left_of_last (b && false) ≡ 0
none_due true = refl
none_due false = refl

batch_push_steps : (world : WorldState) (parcels : List Parcel) (held : List Numbered) → world.parcels ≡ parcels
    → world.front.held ≡ held → Steps world (batch_push world parcels held)
batch_push_steps world (handed ∷ parcels) held parcels_are held_is =
    of_stage world _ refl refl (omega (
      arith,
      ap (λ (parcels : List Parcel). sum_by left_of_parcel parcels) parcels_are,
      sum_by-cons left_of_parcel handed parcels,
      sum_by-append left_of_pushed world.batches (handed ∷ []),
    ))
batch_push_steps world [] (job ∷ jobs) parcels_are held_is =
    of_stage world _ refl refl (omega (
      arith,
      ap (λ (held : List Numbered). sum_by left_of_parcel (group_as_batch held)) held_is,
      sum_by-append left_of_pushed world.batches (parcel.Batch (job ∷ jobs) ∷ []),
    ))
batch_push_steps world [] [] parcels_are held_is = by (all_ended world.front && not world.last_sent) refl
  where
    by : (is_last : Bool) → (all_ended world.front && not world.last_sent) ≡ is_last → Steps world
        (if is_last then Some (record world { last_sent = true; batches = world.batches ++ parcel.Last ∷ [] }) else None)
    by true is =
        of_stage world (record world { last_sent = true; batches = world.batches ++ parcel.Last ∷ [] }) refl refl (omega (
          arith,
          ap left_of_last is,
          none_due (all_ended world.front),
          sum_by-append left_of_pushed world.batches (parcel.Last ∷ []),
        ))
    by false is = tt

-- ---- the committer

kept_left : (outcome : Outcomes) → left_of_outcome (pending_of outcome) ≤ 2 + 2 * length (replies_in outcome)
kept_left (outcomes.Cut replies) = omega arith
kept_left (outcomes.One reply) = omega arith
kept_left outcomes.Nothing = omega arith
kept_left outcomes.Last = omega arith

length-replies : (clock : ℕ) (journal : List Input) (place : ℕ) (jobs : List Numbered)
    → length (replies_from clock journal place (map Admitted jobs)) ≡ length jobs
length-replies clock journal place [] = refl
length-replies clock journal place (job ∷ jobs) =
    omega (arith, length-replies clock journal (place + 1) jobs)

answered : (refused : Bool) (ledger : LedgerState) (handed : Parcel)
    → length (replies_in (apply_step refused ledger handed).outcomes) ≤ owed handed
answered refused ledger (parcel.Batch jobs) = by (must_stop refused ledger (length jobs))
  where
    by : (stops : Bool) → length (replies_in (if stops then apply_result (with_stop ledger)
        (outcomes.Cut (map (reply_with outcome.Stopped) jobs)) else step_of_batch ledger jobs).outcomes) ≤ length jobs
    by true = omega (arith, length-map jobs (reply_with outcome.Stopped))
    by false =
        omega (
          arith,
          length-replies ledger.opening (inputs (with_entry ledger (map input_of jobs))) (length (inputs ledger)) jobs,
        )
answered refused ledger (parcel.Pulse moment) =
    by (must_stop refused ledger 1) (with_stop ledger) (with_entry ledger (input.Pulse moment ∷ []))
  where
    by : (stops : Bool) (x y : LedgerState) → length (replies_in (if stops then apply_result x outcomes.Nothing
        else apply_result y outcomes.Nothing).outcomes) ≤ 0
    by true x y = omega arith
    by false x y = omega arith
answered refused ledger (parcel.Return job cause) = omega arith
answered refused ledger parcel.Last = omega arith

applied : (world : WorldState) (handed : Parcel) (batches : List Parcel) (next : Applied) → world.outcome ≡ None
    → world.batches ≡ handed ∷ batches → length (replies_in next.outcomes) ≤ owed handed →
    IsStep world (record world { batches = batches; ledger = next.ledger; outcome = pending_of next.outcomes })
applied world handed batches next outcome_is batches_are few =
    of_stage world _ refl refl (omega (
      arith,
      few,
      kept_left next.outcomes,
      ap left_of_outcome outcome_is,
      ap (λ (batches : List Parcel). sum_by left_of_pushed batches) batches_are,
      sum_by-cons left_of_pushed handed batches,
    ))

batch_pop_steps : (refused : Bool) (world : WorldState) (outcome : Option Outcomes) (batches : List Parcel)
    → world.outcome ≡ outcome → world.batches ≡ batches → Steps world (batch_pop refused world outcome batches)
batch_pop_steps refused world None (handed ∷ batches) outcome_is batches_are =
    applied world handed batches (apply_step refused world.ledger handed) outcome_is batches_are (answered refused world.ledger handed)
batch_pop_steps refused world None [] outcome_is batches_are = tt
batch_pop_steps refused world (Some outcome) batches outcome_is batches_are = tt

outcome_push_steps : (world : WorldState) (outcome : Option Outcomes) → world.outcome ≡ outcome
    → Steps world (outcome_push world outcome)
outcome_push_steps world None outcome_is = tt
outcome_push_steps world (Some outcome) outcome_is =
    of_stage world _ refl refl
    (omega (arith, ap left_of_outcome outcome_is, sum_by-append left_of_outcomes world.outcomes (outcome ∷ [])))

-- ---- the demultiplexer

outcome_pop_steps : (world : WorldState) (replies : List ReplyValue) (outcomes : List Outcomes) → world.replies ≡ replies
    → world.outcomes ≡ outcomes → Steps world (outcome_pop world replies outcomes)
outcome_pop_steps world [] (outcome ∷ outcomes) replies_are outcomes_are =
    of_stage world _ refl refl (omega (
      arith,
      ap length replies_are,
      ap (λ (outcomes : List Outcomes). sum_by left_of_outcomes outcomes) outcomes_are,
      sum_by-cons left_of_outcomes outcome outcomes,
    ))
outcome_pop_steps world [] [] replies_are outcomes_are = tt
outcome_pop_steps world (reply ∷ replies) outcomes replies_are outcomes_are = tt

unread_more : (mailboxes : List Mailbox) (reply : ReplyValue)
    → sum_by unread (mailboxes_with mailboxes reply) ≤ sum_by unread mailboxes + 1
unread_more mailboxes reply =
    let own = reply.packet.submitter in
    let mailbox = mailbox_at mailboxes own in
    let new = with_reply mailbox reply in
    ⊎_elim
    (λ (among : own < length mailboxes).
    omega (arith, sum_by-set unread mailboxes own new empty_mailbox among, length-append mailbox.ring (reply ∷ [])))
    (λ (past : length mailboxes ≤ own).
    omega (arith, ap (λ (all : List Mailbox). sum_by unread all) (set_past mailboxes own new past)))
    (cases_lt own (length mailboxes))

-- no submitter has received less once a mailbox was replaced by one that received as much
received_after : (mailboxes : List Mailbox) (own submitter : ℕ) (new : Mailbox)
    → length (mailbox_at mailboxes own).received ≤ length new.received
    → length (mailbox_at mailboxes submitter).received ≤ length (mailbox_at (set mailboxes own new) submitter).received
received_after mailboxes own submitter new more =
    ⊎_elim
    (λ (same : own ≡ submitter). subst (λ k. length (mailbox_at mailboxes k).received
    ≤ length (mailbox_at (set mailboxes own new) k).received) same here)
    (λ (other : own ≢ submitter). omega (
      arith,
      ap (λ (mailbox : Mailbox). length mailbox.received)
          (get_or-set_other mailboxes own submitter new empty_mailbox (λ same. other (sym same))),
    ))
    (cases_eq own submitter)
  where
    here : length (mailbox_at mailboxes own).received ≤ length (mailbox_at (set mailboxes own new) own).received
    here =
        ⊎_elim
        (λ (among : own < length mailboxes). omega (
          arith,
          more,
          ap (λ (mailbox : Mailbox). length mailbox.received) (get_or-set_same mailboxes own new empty_mailbox among),
        ))
        (λ (past : length mailboxes ≤ own).
        omega (arith, ap (λ (all : List Mailbox). length (mailbox_at all own).received) (set_past mailboxes own new past)))
        (cases_lt own (length mailboxes))

reply_push_steps : (world : WorldState) (replies : List ReplyValue) → world.replies ≡ replies
    → Steps world (reply_push world replies)
reply_push_steps world [] replies_are = tt
reply_push_steps world (reply ∷ replies) replies_are =
    let own = reply.packet.submitter in
    let new = with_reply (mailbox_at world.mailboxes own) reply in
    record {
      fewer = omega (arith, ap length replies_are, unread_more world.mailboxes reply);
      senders = refl;
      long = length-set world.mailboxes own new;
      received = λ submitter. received_after world.mailboxes own submitter new (omega arith);
    }

-- ---- the submitters

pub is_among : (mailboxes : List Mailbox) (own : ℕ) → 0 < unread (mailbox_at mailboxes own) → own < length mailboxes
is_among mailboxes own some =
    ⊎_elim (λ (among : own < length mailboxes). among)
    (λ (past : length mailboxes ≤ own). absurd (omega (arith, some, ap unread (get_or_past mailboxes own empty_mailbox past))))
    (cases_lt own (length mailboxes))

unread_less : (mailboxes : List Mailbox) (own : ℕ) (new : Mailbox)
    → unread (mailbox_at mailboxes own) ≡ unread new + 1
    → sum_by unread (set mailboxes own new) + 1 ≡ sum_by unread mailboxes
unread_less mailboxes own new one =
    let among : own < length mailboxes = is_among mailboxes own (omega (arith, one)) in
    omega (arith, one, sum_by-set unread mailboxes own new empty_mailbox among)

reply_pop_steps : (world : WorldState) (own : ℕ) (ring : List ReplyValue) → (mailbox_at world.mailboxes own).ring ≡ ring
    → Steps world (reply_pop world own (after_pop_of (mailbox_at world.mailboxes own) ring))
reply_pop_steps world own [] ring_is = tt
reply_pop_steps world own (reply ∷ ring) ring_is =
    let received = (mailbox_at world.mailboxes own).received in
    let new : Mailbox = record { ring = ring; received = received ++ reply ∷ [] } in
    let one : unread (mailbox_at world.mailboxes own) ≡ unread new + 1 = omega (arith, ap length ring_is) in
    record {
      fewer = omega (arith, unread_less world.mailboxes own new one);
      senders = refl;
      long = length-set world.mailboxes own new;
      received = λ submitter. received_after world.mailboxes own submitter new (omega (arith, length-append received (reply ∷ [])));
    }

-- ---- any step

pub steps : (world : WorldState) (event : Event) → is_push event ≡ false → Steps world (moved world event)
steps world (Push ticket) unpushed = cc
steps world (Pop refused) unpushed = pop_steps refused world world.parcels world.queue refl refl
steps world BatchPush unpushed = batch_push_steps world world.parcels world.front.held refl refl
steps world (BatchPop refused) unpushed = batch_pop_steps refused world world.outcome world.batches refl refl
steps world OutcomePush unpushed = outcome_push_steps world world.outcome refl
steps world OutcomePop unpushed = outcome_pop_steps world world.replies world.outcomes refl refl
steps world ReplyPush unpushed = reply_push_steps world world.replies refl
steps world (ReplyPop own) unpushed = reply_pop_steps world own (mailbox_at world.mailboxes own).ring refl
