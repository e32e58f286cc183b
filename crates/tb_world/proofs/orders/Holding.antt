-- What holds of a World is kept by each of its steps.
use Rattle.std.proofs.Common.{refl, sym, ap, ◌∙◌, subst, arith, ◌≡◌, ◌≢◌, ◌==◌, ⊎_elim, ℕ, ◌<◌, Bool, true, false, ◌&&◌, not, List, [], ◌∷◌, ◌++◌, map, length, set, append_assoc, append-nil, length-set, get_or-set_other, Option, Some, None, unwrap_or}
use Rattle.tb_world.proofs.Words.{if◌then◌else◌, flat_map, AllByRecursion, get_or-set_same, map-append, filter-append, flat_map-append, cases_eq, eq-eqb, ne_eqb, Numbered, ReplyValue, items_in, Ticket, Outcomes, Parcel, Decision, Admitted, AreDecisions, FrontState, take_step, with_group, all_ended, all_decisions_in, decisions_in, held_by, LedgerState, apply_step, replies_to, Commits, replies_in, Mailbox, empty_mailbox, mailbox_at, with_reply, after_pop_of, may_push, WorldState, sender_at, is_lawful, pop, batch_push, pending_of, batch_pop, outcome_push, outcome_pop, reply_push, reply_pop, senders_after, IsClear, IsStep, is_step, passes_then, goes_on, HasJobs, all-push, commits_more}
use Rattle.tb_core.specs.declared.outcomes.Outcomes.TheVariants as outcomes
use Rattle.tb_core.specs.declared.parcel.Parcel.TheVariants as parcel
use Rattle.tb_world.proofs.orders.Pushed.{HavePushed, push_counted}

abbrev pub AllHaveJobs : List Parcel → Type 0
AllHaveJobs parcels = AllByRecursion HasJobs parcels

-- what the front made of a queue and no ledger took yet, from the batch ring back to the group held
abbrev pub on_the_way : FrontState → List Parcel → List Parcel → List Decision
on_the_way front parcels batches = all_decisions_in batches ++ (all_decisions_in parcels ++ held_by front)

abbrev pub of_all : List Outcomes → List ReplyValue
of_all outcomes = flat_map replies_in outcomes

abbrev pub of_one : Option Outcomes → List ReplyValue
of_one None = []
of_one (Some outcome) = replies_in outcome

-- the replies that no ring has yet, from the demultiplexer back to the committer
abbrev pub unrouted : List ReplyValue → List Outcomes → Option Outcomes → List ReplyValue
unrouted replies outcomes outcome = replies ++ (of_all outcomes ++ of_one outcome)

-- what of the queue a front took went to a ledger, or is on the way
pub record AreSent (queue : List Ticket) (applied : List Decision) (front : FrontState)
    (parcels batches : List Parcel) : Type 0 where
  pub passes : AreDecisions (items_in queue) front.closed front.stopped (applied ++ on_the_way front parcels batches)
  pub clear : IsClear front
  pub parcel_jobs : AllHaveJobs parcels
  pub batch_jobs : AllHaveJobs batches

-- what a submitter has of the replies: what it received, what is in its ring, and its own of those on the way
abbrev pub shelved : ℕ → List Mailbox → List ReplyValue → List ReplyValue
shelved submitter mailboxes way =
    (mailbox_at mailboxes submitter).received ++ ((mailbox_at mailboxes submitter).ring ++ replies_to way submitter)

-- each submitter has exactly the replies with its number
pub record AreRouted (submitters : ℕ) (answers : List ReplyValue) (mailboxes : List Mailbox)
    (way : List ReplyValue) : Type 0 where
  pub long : length mailboxes ≡ submitters
  pub each : (submitter : ℕ) → submitter < submitters → replies_to answers submitter ≡ shelved submitter mailboxes way

pub record Goes (batcher : FrontState) (committer : LedgerState) : Type 0 where
  pub front : batcher.stopped ≡ false
  pub ledger : committer.stopped ≡ false

-- Of what was pushed some was taken; the front's decisions on that were applied, or are on the way. The replies to what
-- was applied are with their submitters, or on the way. If no allocation failed, nothing stopped.
pub record Holds (Unrefused : Type 0) (start : LedgerState) (submitters : ℕ) (pushed : List Ticket) (world : WorldState) : Type 0 where
  pub taken : List Ticket
  pub applied : List Decision
  pub answers : List ReplyValue
  pub split : pushed ≡ taken ++ world.queue
  pub counted : world.submitters ≡ submitters
  pub senders : HavePushed submitters pushed world.senders
  pub sent : AreSent taken applied world.front world.parcels world.batches
  pub commits : Commits start applied world.ledger answers
  pub routed : AreRouted submitters answers world.mailboxes (unrouted world.replies world.outcomes world.outcome)
  pub goes : Unrefused → Goes world.front world.ledger

-- ---- what a parcel and an outcome change

items_push : (queue : List Ticket) (ticket : Ticket)
    → items_in (queue ++ ticket ∷ []) ≡ items_in queue ++ ticket.item ∷ []
items_push queue ticket = map-append (λ (ticket : Ticket). ticket.item) queue (ticket ∷ [])

stepped : (refused : Bool) (front : FrontState) (ticket : Ticket) → IsClear front
    → IsStep HasJobs refused front ticket.sender ticket.item (take_step refused front ticket.sender ticket.item)
stepped refused front ticket clear =
    is_step HasJobs (λ moment. tt) (λ job cause. tt) refused front ticket.sender ticket.item
    (λ job jobs held. omega arith) clear

sent_ticket : {queue : List Ticket} {applied : List Decision} {front : FrontState} {batches : List Parcel}
    (refused : Bool) (ticket : Ticket) → AreSent queue applied front [] batches →
    (let next = take_step refused front ticket.sender ticket.item in AreSent
    (queue ++ ticket ∷ []) applied next.front next.parcels batches)
sent_ticket {queue} {applied} {front} {batches} refused ticket sent =
    let next = take_step refused front ticket.sender ticket.item in
    let step = stepped refused front ticket sent.clear in
    let more = passes_then HasJobs refused front ticket.sender ticket.item next step (items_in queue)
    (applied ++ all_decisions_in batches) (rw append_assoc sent.passes) in
    record {
      passes = rw items_push (simp append_assoc at more);
      clear = step.clear;
      parcel_jobs = step.parcels;
      batch_jobs = sent.batch_jobs;
    }

-- a parcel goes to the batch ring, from those to push or as the group held
sent_parcel : {queue : List Ticket} {applied : List Decision} {front : FrontState} {parcels others batches : List Parcel}
    (held : List Numbered) (handed : Parcel) → HasJobs handed → AllHaveJobs others → IsClear (with_group front held) →
    all_decisions_in parcels ++ held_by front ≡ decisions_in handed ++ (all_decisions_in others ++ map Admitted held)
    → AreSent queue applied front parcels batches
    → AreSent queue applied (with_group front held) others (batches ++ handed ∷ [])
sent_parcel {front} {parcels} {others} {batches} held handed has all clear list sent =
    let way : on_the_way front parcels batches ≡ on_the_way (with_group front held) others
    (batches ++ handed ∷ []) =
    rw list (simp (flat_map-append decisions_in batches (handed ∷ []), append-nil, append_assoc)) in
    record {
      passes = rw way at sent.passes;
      clear = clear;
      parcel_jobs = all;
      batch_jobs = all-push HasJobs batches handed sent.batch_jobs has;
    }

sent_applied : {queue : List Ticket} {applied : List Decision} {front : FrontState} {parcels batches : List Parcel}
    {handed : Parcel} → AreSent queue applied front parcels (handed ∷ batches)
    → AreSent queue (applied ++ decisions_in handed) front parcels batches
sent_applied {queue} {applied} {front} {parcels} {batches} {handed} sent =
    let rest = all_decisions_in parcels ++ held_by front in
    let list : applied ++ ((decisions_in handed ++ all_decisions_in batches) ++ rest)
    ≡ (applied ++ decisions_in handed) ++ (all_decisions_in batches ++ rest) = simp append_assoc in
    record {
      passes = subst (AreDecisions (items_in queue) front.closed front.stopped) list sent.passes;
      clear = sent.clear;
      parcel_jobs = sent.parcel_jobs;
      batch_jobs = sent.batch_jobs.1;
    }

replies_to-append : (submitter : ℕ) (xs ys : List ReplyValue)
    → replies_to (xs ++ ys) submitter ≡ replies_to xs submitter ++ replies_to ys submitter
replies_to-append submitter xs ys = filter-append (λ (reply : ReplyValue). reply.packet.submitter == submitter) xs ys

routed_more : {submitters : ℕ} {answers way : List ReplyValue} {mailboxes : List Mailbox} (more : List ReplyValue)
    → AreRouted submitters answers mailboxes way → AreRouted submitters (answers ++ more) mailboxes (way ++ more)
routed_more {answers} {way} more routed = record {
  long = routed.long;
  each = λ submitter among. rw (
    replies_to-append submitter answers more,
    replies_to-append submitter way more,
    routed.each submitter among,
  ) (simp append_assoc);
}

left_replies : (outcome : Outcomes) → of_one (pending_of outcome) ≡ replies_in outcome
left_replies (outcomes.Cut replies) = refl
left_replies (outcomes.One reply) = refl
left_replies outcomes.Nothing = refl
left_replies outcomes.Last = refl

-- the next parcel is applied without a stop if nothing was refused
abbrev pub NextIsApplied : Type 0 → Bool → WorldState → Type 0
NextIsApplied Unrefused refused world =
    Unrefused → (handed : Parcel) (batches : List Parcel) → world.batches ≡ handed ∷ batches
    → (apply_step refused world.ledger handed).ledger.stopped ≡ false

-- each step of a World of which that holds
module _ {Unrefused : Type 0} {start : LedgerState} {submitters : ℕ} {pushed : List Ticket} {world : WorldState}
    (holds : Holds Unrefused start submitters pushed world) where
  -- ---- the batcher

  -- it hasn't stopped
  batched : {taken queue : List Ticket} {front : FrontState} {parcels batches : List Parcel} {last : Bool}
      → pushed ≡ taken ++ queue → (Unrefused → front.stopped ≡ false) → AreSent taken holds.applied front parcels batches
      → Holds Unrefused start submitters pushed (record world {
        queue = queue;
        front = front;
        parcels = parcels;
        last_sent = last;
        batches = batches;
      })
  batched {taken} split goes sent = record {
    taken = taken;
    applied = holds.applied;
    answers = holds.answers;
    split = split;
    counted = holds.counted;
    senders = holds.senders;
    sent = sent;
    commits = holds.commits;
    routed = holds.routed;
    goes = λ is. record { front = goes is; ledger = (holds.goes is).ledger };
  }

  pub pop_holds : (refused : Bool) (parcels : List Parcel) (queue : List Ticket) → world.parcels ≡ parcels
      → world.queue ≡ queue → (Unrefused → refused ≡ false)
      → Holds Unrefused start submitters pushed (unwrap_or (pop refused world parcels queue) world)
  pop_holds refused (first ∷ parcels) queue parcels_are queue_is unrefused = holds
  pop_holds refused [] [] parcels_are queue_is unrefused = holds
  pop_holds refused [] (ticket ∷ queue) parcels_are queue_is unrefused =
      batched (holds.split ∙ ap (λ rest. holds.taken ++ rest) queue_is ∙ sym (append_assoc holds.taken (ticket ∷ []) queue))
      (λ is. goes_on HasJobs refused world.front ticket.sender ticket.item _
      (stepped refused world.front ticket holds.sent.clear) (unrefused is) (holds.goes is).front)
      (sent_ticket refused ticket (subst (λ ps. AreSent holds.taken holds.applied world.front ps world.batches) parcels_are holds.sent))

  pub batch_push_holds : (parcels : List Parcel) (held : List Numbered) → world.parcels ≡ parcels
      → world.front.held ≡ held → Holds Unrefused start submitters pushed (unwrap_or (batch_push world parcels held) world)
  batch_push_holds (handed ∷ parcels) held parcels_are held_is =
      let sent = subst (λ ps. AreSent holds.taken holds.applied world.front ps world.batches) parcels_are holds.sent in
      batched holds.split (λ is. (holds.goes is).front)
      (sent_parcel world.front.held handed sent.parcel_jobs.0 sent.parcel_jobs.1 sent.clear
      (append_assoc (decisions_in handed) (all_decisions_in parcels) (held_by world.front)) sent)
  batch_push_holds [] (job ∷ jobs) parcels_are held_is =
      let group = parcel.Batch (job ∷ jobs) in
      let list : all_decisions_in world.parcels ++ held_by world.front ≡ decisions_in group ++ (all_decisions_in world.parcels ++ []) =
      ap (λ (ps : List Parcel). all_decisions_in ps ++ held_by world.front) parcels_are ∙ ap (map Admitted) held_is
      ∙ sym (append-nil (decisions_in group)) ∙ ap (λ (ps : List Parcel). decisions_in group
      ++ (all_decisions_in ps ++ [])) (sym parcels_are) in
      batched holds.split (λ is. (holds.goes is).front)
      (sent_parcel [] group (omega arith) holds.sent.parcel_jobs (λ any. refl) list holds.sent)
  batch_push_holds [] [] parcels_are held_is = by (all_ended world.front && not world.last_sent)
    where
      by : (is_last : Bool) → Holds Unrefused start submitters pushed
          (unwrap_or (if is_last then Some (record world { last_sent = true; batches = world.batches ++ parcel.Last ∷ [] })
          else None) world)
      by true =
          batched holds.split (λ is. (holds.goes is).front)
          (sent_parcel world.front.held parcel.Last tt holds.sent.parcel_jobs holds.sent.clear refl holds.sent)
      by false = holds

  -- ---- the committer

  pub batch_pop_holds : (refused : Bool) (outcome : Option Outcomes) (batches : List Parcel) → world.outcome ≡ outcome
      → world.batches ≡ batches → NextIsApplied Unrefused refused world
      → Holds Unrefused start submitters pushed (unwrap_or (batch_pop refused world outcome batches) world)
  batch_pop_holds refused (Some outcome) batches outcome_is batches_are goes = holds
  batch_pop_holds refused None [] outcome_is batches_are goes = holds
  batch_pop_holds refused None (handed ∷ batches) outcome_is batches_are goes =
      let sent = subst (λ ps. AreSent holds.taken holds.applied world.front world.parcels ps) batches_are holds.sent in
      let next = apply_step refused world.ledger handed in
      let more = replies_in next.outcomes in
      let way : unrouted world.replies world.outcomes None ++ more
      ≡ unrouted world.replies world.outcomes (pending_of next.outcomes) =
      rw left_replies (simp (append-nil, append_assoc)) in
      record {
        taken = holds.taken;
        applied = holds.applied ++ decisions_in handed;
        answers = holds.answers ++ more;
        split = holds.split;
        counted = holds.counted;
        senders = holds.senders;
        sent = sent_applied sent;
        commits = commits_more start holds.applied world.ledger holds.answers holds.commits refused handed sent.batch_jobs.0;
        routed = subst (AreRouted submitters (holds.answers ++ more) world.mailboxes) way (routed_more more
            (subst (λ pending. AreRouted submitters holds.answers world.mailboxes (unrouted world.replies world.outcomes pending))
            outcome_is holds.routed));
        goes = λ is. record { front = (holds.goes is).front; ledger = goes is handed batches batches_are };
      }

  -- the replies on the way are elsewhere, and the mailboxes may have changed
  rerouted : {replies : List ReplyValue} {outcomes : List Outcomes} {outcome : Option Outcomes}
      {mailboxes : List Mailbox} → AreRouted submitters holds.answers mailboxes (unrouted replies outcomes outcome)
      → Holds Unrefused start submitters pushed (record world {
        replies = replies;
        outcomes = outcomes;
        outcome = outcome;
        mailboxes = mailboxes;
      })
  rerouted routed = record {
    taken = holds.taken;
    applied = holds.applied;
    answers = holds.answers;
    split = holds.split;
    counted = holds.counted;
    senders = holds.senders;
    sent = holds.sent;
    commits = holds.commits;
    routed = routed;
    goes = holds.goes;
  }

  pub outcome_push_holds : (outcome : Option Outcomes) → world.outcome ≡ outcome
      → Holds Unrefused start submitters pushed (unwrap_or (outcome_push world outcome) world)
  outcome_push_holds None is = holds
  outcome_push_holds (Some outcome) is =
      let way : unrouted world.replies world.outcomes (Some outcome)
      ≡ unrouted world.replies (world.outcomes ++ outcome ∷ []) None =
      simp (flat_map-append replies_in world.outcomes (outcome ∷ []), append-nil) in
      rerouted (subst (AreRouted submitters holds.answers world.mailboxes) (ap (unrouted world.replies world.outcomes) is ∙ way)
      holds.routed)

  -- ---- the demultiplexer

  pub outcome_pop_holds : (replies : List ReplyValue) (outcomes : List Outcomes) → world.replies ≡ replies
      → world.outcomes ≡ outcomes → Holds Unrefused start submitters pushed (unwrap_or (outcome_pop world replies outcomes) world)
  outcome_pop_holds (reply ∷ replies) outcomes replies_are outcomes_are = holds
  outcome_pop_holds [] [] replies_are outcomes_are = holds
  outcome_pop_holds [] (outcome ∷ outcomes) replies_are outcomes_are =
      rerouted (subst (AreRouted submitters holds.answers world.mailboxes)
      (ap (λ (rs : List ReplyValue). unrouted rs world.outcomes world.outcome) replies_are
      ∙ ap (λ (os : List Outcomes). unrouted [] os world.outcome) outcomes_are
      ∙ append_assoc (replies_in outcome) (of_all outcomes) (of_one world.outcome)) holds.routed)

  -- one mailbox was replaced: its submitter has the same with what is on the way, and so has each other
  replaced : (own : ℕ) (new : Mailbox) (replies : List ReplyValue) →
      (let old = unrouted world.replies world.outcomes world.outcome in let way = unrouted replies world.outcomes world.outcome in
      shelved own world.mailboxes old ≡ new.received ++ (new.ring ++ replies_to way own) →
      ((submitter : ℕ) → own ≢ submitter → replies_to old submitter ≡ replies_to way submitter)
      → Holds Unrefused start submitters pushed (record world { replies = replies; mailboxes = set world.mailboxes own new }))
  replaced own new replies here elsewhere =
      let way = unrouted replies world.outcomes world.outcome in
      let old = holds.routed in
      rerouted (record {
        long = length-set world.mailboxes own new ∙ old.long;
        each = λ submitter among. old.each submitter among ∙ ⊎_elim
            (λ (same : own ≡ submitter). subst (λ k. shelved k world.mailboxes (unrouted world.replies world.outcomes world.outcome)
            ≡ shelved k (set world.mailboxes own new) way) same
            (here ∙ ap (λ (s : Mailbox). s.received ++ (s.ring ++ replies_to way own))
            (sym (get_or-set_same world.mailboxes own new empty_mailbox (omega (arith, old.long, same, among))))))
            (λ (other : own ≢ submitter). ap (λ rs. (mailbox_at world.mailboxes submitter).received
            ++ ((mailbox_at world.mailboxes submitter).ring ++ rs)) (elsewhere submitter other)
            ∙ ap (λ (s : Mailbox). s.received ++ (s.ring ++ replies_to way submitter))
            (sym (get_or-set_other world.mailboxes own submitter new empty_mailbox (λ same. other (sym same)))))
            (cases_eq own submitter);
      })

  -- a reply goes from the way to its submitter's ring
  pub reply_push_holds : (replies : List ReplyValue) → world.replies ≡ replies
      → Holds Unrefused start submitters pushed (unwrap_or (reply_push world replies) world)
  reply_push_holds [] replies_are = holds
  reply_push_holds (reply ∷ replies) replies_are =
      let own = reply.packet.submitter in
      let mailbox = mailbox_at world.mailboxes own in
      let way = unrouted replies world.outcomes world.outcome in
      replaced own (with_reply mailbox reply) replies
      (ap (λ (rs : List ReplyValue). shelved own world.mailboxes (unrouted rs world.outcomes world.outcome)) replies_are
      ∙ rw (eq-eqb own own refl) (ap (λ rs. mailbox.received ++ rs)
      (sym (append_assoc mailbox.ring (reply ∷ []) (replies_to way own)))))
      (λ submitter other. ap (λ (rs : List ReplyValue). replies_to (unrouted rs world.outcomes world.outcome) submitter) replies_are
      ∙ rw (ne_eqb own submitter other) refl)

  -- ---- the submitters

  pub reply_pop_holds : (own : ℕ) (ring : List ReplyValue) →
      (let mailbox = mailbox_at world.mailboxes own in mailbox.ring ≡ ring
      → Holds Unrefused start submitters pushed (unwrap_or (reply_pop world own (after_pop_of mailbox ring)) world))
  reply_pop_holds own [] ring_is = holds
  reply_pop_holds own (reply ∷ ring) ring_is =
      let received = (mailbox_at world.mailboxes own).received in
      let others = replies_to (unrouted world.replies world.outcomes world.outcome) own in
      replaced own (record { ring = ring; received = received ++ reply ∷ [] }) world.replies
      (ap (λ rs. received ++ (rs ++ others)) ring_is ∙ sym (append_assoc received (reply ∷ []) (ring ++ others)))
      (λ submitter other. refl)

  pub push_holds : (ticket : Ticket) (lawful : Bool) → is_lawful world ticket ≡ lawful →
      Holds Unrefused start submitters (pushed ++ (if lawful then ticket ∷ [] else []))
      (unwrap_or (if lawful then Some (record world {
        senders = senders_after world.senders ticket;
        queue = world.queue ++ ticket ∷ [];
      }) else None) world)
  push_holds ticket false is = rw append-nil holds
  push_holds ticket true is = record {
    taken = holds.taken;
    applied = holds.applied;
    answers = holds.answers;
    split = ap (λ l. l ++ ticket ∷ []) holds.split ∙ append_assoc holds.taken world.queue (ticket ∷ []);
    senders = push_counted world.limit submitters pushed world.senders ticket
        (subst (λ m. may_push world.limit m ticket.sender (sender_at world.senders ticket.sender) ticket.item ≡ true)
        holds.counted is) holds.senders;
    counted = holds.counted;
    sent = holds.sent;
    commits = holds.commits;
    routed = holds.routed;
    goes = holds.goes;
  }
