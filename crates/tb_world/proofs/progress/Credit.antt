-- Within the credit a reply ring has room for each reply.
use Rattle.std.proofs.Common.{refl, sym, ap, subst, ◌∙◌, arith, ◌≡◌, ◌≢◌, ⊎_elim, ℕ, ◌+◌, ◌-◌, ◌<◌, ◌≤◌, ◌==◌, Bool, true, false, List, [], ◌∷◌, ◌++◌, length, length-append, set, Option, Some, None, unwrap_or, ltb-true, lt-ltb, eq-eqb, get_or-set_other}
use Rattle.tb_world.proofs.Words.{if◌then◌else◌, nat_lt, cases_eq, cases_lt, length-map, get_or-set_same, set_past, get_or-replicate, get_or_past, length-replicate, Input, ReplyValue, items_in, items_from, AreSubmitted, Item, Ticket, all_due, replies_to, Ahead, IsPrefix, LedgerState, inputs, Commits, prefix-filter, one-each, Event, Push, ReplyPush, WorldSender, newcomer, sender_after, empty_mailbox, mailbox_at, WorldState, sender_at, is_lawful, senders_after, received_of, moved, after_event, run, world_over, unread, in_flight, has_credit, uses_credit, UseCredit, has_reply_slot, has_room, CreditLeavesRoom}
use Rattle.tb_work.specs.declared.item.Item.TheVariants as item
use Rattle.tb_core.specs.claim.Headline.{packets_queued}
use Rattle.tb_core.proofs.Packets.{jobs-part}
use Rattle.tb_world.proofs.progress.Steps.{Steps, steps}
use Rattle.tb_world.proofs.orders.Pushed.{packets_in}
use Rattle.tb_world.proofs.orders.Holding.{unrouted, Holds}
use Rattle.tb_world.proofs.orders.Runs.{all_holds}
use Rattle.tb_world.proofs.orders.Lawful.{far_prefix}

-- ---- what is in flight stays within the credit

abbrev InCredit : ℕ → WorldState → Type 0
InCredit credit world = (s : ℕ) → (sender_at world.senders s).pushed ≤ length (received_of world s) + credit

by_step : (credit : ℕ) (world : WorldState) (after : Option WorldState) → Steps world after → InCredit credit world
    → InCredit credit (unwrap_or after world)
by_step credit world None step in_credit = in_credit
by_step credit world (Some next) step in_credit = λ sender.
    omega (arith, in_credit sender, step.received sender, ap (λ (all : List WorldSender). (sender_at all sender).pushed) step.senders)

-- a sender has pushed at most one more
pushed_more : (credit received : ℕ) (sender : WorldSender) (pushed : Item) → sender.pushed ≤ received + credit
    → has_credit credit (sender.pushed - received) pushed ≡ true → (sender_after sender pushed).pushed ≤ received + credit
pushed_more credit received sender (item.Packet job) few is =
    omega (arith, few, ltb-true (sender.pushed - received) credit is)
pushed_more credit received sender (item.Pulse moment) few is = few
pushed_more credit received sender item.End few is = few
pushed_more credit received sender item.Close few is = few

set_sender : (senders : List WorldSender) (own number most : ℕ) (new : WorldSender) → (own ≡ number → new.pushed ≤ most)
    → (sender_at senders number).pushed ≤ most → (sender_at (set senders own new) number).pushed ≤ most
set_sender senders own number most new here old =
    ⊎_elim
    (λ (same : own ≡ number). ⊎_elim
    (λ (among : own < length senders). omega (
      arith,
      here same,
      ap (λ (sender : WorldSender). sender.pushed)
          (ap (λ k. sender_at (set senders own new) k) (sym same)
          ∙ get_or-set_same senders own new newcomer among),
    ))
    (λ (past : length senders ≤ own).
    omega (arith, old, ap (λ (all : List WorldSender). (sender_at all number).pushed) (set_past senders own new past)))
    (cases_lt own (length senders)))
    (λ (other : own ≢ number). omega (
      arith,
      old,
      ap (λ (sender : WorldSender). sender.pushed) (get_or-set_other senders own number new newcomer (λ same. other (sym same))),
    ))
    (cases_eq own number)

push_keeps : (credit : ℕ) (world : WorldState) (ticket : Ticket) (lawful : Bool)
    → has_credit credit (in_flight world ticket.sender) ticket.item ≡ true → InCredit credit world
    → InCredit credit (unwrap_or (if lawful then Some (record world {
      senders = senders_after world.senders ticket;
      queue = world.queue ++ ticket ∷ [];
    }) else None) world)
push_keeps credit world ticket false is in_credit = in_credit
push_keeps credit world ticket true is in_credit = λ sender.
    let own = ticket.sender in
    let new = sender_after (sender_at world.senders own) ticket.item in
    let most : new.pushed ≤ length (received_of world own) + credit =
    pushed_more credit (length (received_of world own)) (sender_at world.senders own) ticket.item (in_credit own) is in
    set_sender world.senders own sender (length (received_of world sender) + credit) new
    (λ same. subst (λ k. new.pushed ≤ length (received_of world k) + credit) same most) (in_credit sender)

event_keeps : (credit : ℕ) (world : WorldState) (event : Event) → uses_credit credit world event ≡ true → InCredit credit world
    → InCredit credit (after_event world event)
event_keeps credit world (Push ticket) is in_credit = push_keeps credit world ticket (is_lawful world ticket) is in_credit
event_keeps credit world event is in_credit = by_step credit world (moved world event) (steps world event refl) in_credit

run_keeps : (credit : ℕ) (world : WorldState) (events : List Event) → UseCredit credit world events → InCredit credit world
    → InCredit credit (run world events)
run_keeps credit world [] uses in_credit = in_credit
run_keeps credit world (event ∷ events) uses in_credit =
    run_keeps credit (after_event world event) events uses.1 (event_keeps credit world event uses.0 in_credit)

new_keeps : (credit : ℕ) (start : LedgerState) (limit submitters : ℕ) → InCredit credit (world_over start limit submitters)
new_keeps credit start limit submitters = λ number.
    ⊎_elim
    (λ (among : number < submitters + 1).
    omega (arith, ap (λ (sender : WorldSender). sender.pushed) (get_or-replicate (submitters + 1) number newcomer newcomer among)))
    (λ (past : submitters + 1 ≤ number). omega (
      arith,
      ap (λ (sender : WorldSender). sender.pushed) (get_or_past (world_over start limit submitters).senders number newcomer
          (omega (arith, past, length-replicate (submitters + 1) newcomer))),
    ))
    (cases_lt number (submitters + 1))

-- ---- one reply for each packet

counted : (items : List Item) → length (packets_queued items) ≡ packets_in items
counted [] = refl
counted (item.Packet job ∷ items) = omega (arith, counted items)
counted (x ∷ items) = counted items

as_many : (clock before submitters submitter : ℕ) (journal : List Input) (queue : List Ticket) → AreSubmitted submitters queue
    → length (replies_to (all_due clock before (items_in queue) journal) submitter) ≡ packets_in (items_from submitter queue)
as_many clock before submitters submitter journal queue all =
    let replies = replies_to (all_due clock before (items_in queue) journal) submitter in
    omega (
      arith,
      length-map replies (λ (reply : ReplyValue). reply.packet),
      ap length (one-each clock submitter journal (Ahead before) (items_in queue) ∙ sym (jobs-part submitters submitter queue all)),
      counted (items_from submitter queue),
    )

-- ---- the room

fewer : {X : Type 0} (xs ys : List X) → IsPrefix xs ys → length xs ≤ length ys
fewer xs ys (rest, is) = omega (arith, length-append xs rest, ap length is)

-- what a submitter received, what is in its ring, and its own of those on the way, are no more than it pushed
unread_few : {Unrefused : Type 0} {start : LedgerState} {submitters : ℕ} {pushed : List Ticket} {world : WorldState}
    → Holds Unrefused start submitters pushed world → (submitter : ℕ) → submitter < submitters →
    length (received_of world submitter) + (unread (mailbox_at world.mailboxes submitter)
    + length (replies_to (unrouted world.replies world.outcomes world.outcome) submitter)) ≤ (sender_at world.senders submitter).pushed
unread_few {start} {submitters} {pushed} {world} holds submitter among =
    let mailbox = mailbox_at world.mailboxes submitter in
    let way = replies_to (unrouted world.replies world.outcomes world.outcome) submitter in
    let all = all_due start.opening (length (inputs start)) (items_in pushed) (inputs world.ledger) in
    let mine : IsPrefix (replies_to holds.answers submitter) (replies_to all submitter) =
    prefix-filter (λ (reply : ReplyValue). reply.packet.submitter == submitter) holds.answers all
    (far_prefix holds) in
    omega (
      arith,
      ap length (holds.routed.each submitter among),
      length-append mailbox.received (mailbox.ring ++ way),
      length-append mailbox.ring way,
      fewer (replies_to holds.answers submitter) (replies_to all submitter) mine,
      as_many start.opening (length (inputs start)) submitters submitter (inputs world.ledger) pushed holds.senders.submitted,
      (holds.senders.each submitter (omega (arith, among))).counted,
    )

room_for : {Unrefused : Type 0} {start : LedgerState} {submitters : ℕ} {pushed : List Ticket} {world : WorldState}
    → Holds Unrefused start submitters pushed world → (credit : ℕ) → InCredit credit world → 0 < credit → (replies : List ReplyValue)
    → world.replies ≡ replies → has_reply_slot credit world replies ≡ true
room_for holds credit in_credit some [] replies_are = refl
room_for {submitters} {world} holds credit in_credit some (reply ∷ replies) replies_are =
    let submitter = reply.packet.submitter in
    let mailbox = mailbox_at world.mailboxes submitter in
    let less : unread mailbox < credit =
    ⊎_elim
    (λ (among : submitter < submitters). omega (arith, in_credit submitter, unread_few holds submitter among, one_more))
    (λ (past : submitters ≤ submitter).
    omega (arith, some, ap unread (get_or_past world.mailboxes submitter empty_mailbox (omega (arith, past, holds.routed.long)))))
    (cases_lt submitter submitters) in
    let lt : nat_lt (unread mailbox) credit ≡ true = lt-ltb (unread mailbox) credit less in
    rw lt refl
  where
    one_more : 0 < length (replies_to (unrouted world.replies world.outcomes world.outcome) reply.packet.submitter)
    one_more =
        let submitter = reply.packet.submitter in
        let own : (submitter == submitter) ≡ true = eq-eqb submitter submitter refl in
        rw (replies_are, own) (omega arith)

module _ (start : LedgerState) (limit submitters credit slots : ℕ) (events : List Event) where
  abbrev begin : WorldState
  begin = world_over start limit submitters

  leaves_room : Commits start [] start [] → 0 < credit → UseCredit credit begin events
      → has_room slots credit (run begin events) ReplyPush ≡ true
  leaves_room began some uses =
      room_for (all_holds start limit submitters events began) credit
      (run_keeps credit begin events uses (new_keeps credit start limit submitters)) some (run begin events).replies refl

pub credit_leaves_room : CreditLeavesRoom
credit_leaves_room = leaves_room
