-- What senders queued, with one ticket more and with the ends of a run.
use Rattle.std.proofs.Common.{refl, sym, ap, ◌∙◌, subst, arith, ◌≡◌, ◌≢◌, ⊎_elim, ℕ, zero, suc, ◌+◌, ◌<◌, ◌≤◌, Bool, true, false, not, ◌&&◌, if◌then◌else◌, List, [], ◌∷◌, ◌++◌, length, append-nil, append_assoc, get_or, get_or-set_other}
use Rattle.tb_embed.proofs.Words.{slice_set, get_or-set_same, map-append, Numbered, items_in, items_from, is_end, IsUnended, IsSubmitted, AreSubmitted, AreNumbered, IsQueueOf, Item, Ticket, Packet, Decision, AreDecisions, part_push, all-push, passes_more, Stays, packets_in, HasEnded, HasQueued, AreQueued, ticket_of, packet_ticket, ends_of, ended_queue}
use Rattle.std.proofs.lemmas.List.Folds.{list_all-append}
use Rattle.std.proofs.lemmas.Bool.{cases_eq, eq-eqb, ne_eqb}
use Rattle.tb_work.specs.declared.item.Item.TheVariants as item

-- ---- one sender's items

-- a packet is its sender's own, with the next number
abbrev pub IsNext : ℕ → ℕ → Item → Type 0
IsNext sender next (item.Packet job) = (job.submitter ≡ sender) × (job.number ≡ next)
IsNext sender next x = Unit {0}

pub packets_in-push : (items : List Item) (x : Item) → packets_in (items ++ x ∷ []) ≡ packets_in items + packets_in (x ∷ [])
packets_in-push [] x = omega arith
packets_in-push (item.Packet job ∷ items) x = omega (arith, packets_in-push items x)
packets_in-push (item.Pulse moment ∷ items) x = packets_in-push items x
packets_in-push (item.End ∷ items) x = packets_in-push items x
packets_in-push (item.Close ∷ items) x = packets_in-push items x

numbered_push : (sender next : ℕ) (items : List Item) (x : Item) → AreNumbered sender next items
    → IsNext sender (next + packets_in items) x → AreNumbered sender next (items ++ x ∷ [])
numbered_push sender next [] (item.Packet job) all is = (is.0, is.1 ∙ omega arith, tt)
numbered_push sender next [] x all is = tt
numbered_push sender next (item.Packet job ∷ items) x all is =
    (all.0, all.1, numbered_push sender (next + 1) items x all.2 (subst (λ n. IsNext sender n x) (omega arith) is))
numbered_push sender next (first ∷ items) x all is = numbered_push sender next items x all is

ends_with : (items : List Item) (x : Item) (b : Bool) → is_end x ≡ b → IsUnended items → HasEnded b (items ++ x ∷ [])
ends_with items x true is unended =
    record { body = items; last = x; parts = refl; unended = unended; ends = is }
ends_with items x false is unended =
    list_all-append (λ x. not (is_end x)) items (x ∷ []) ∙ ap (λ b. b && (not (is_end x) && true)) unended
    ∙ ap (λ b. not b && true) is

-- one item more
queued_more : (sender next : ℕ) (items : List Item) (x : Item) → IsNext sender next x
    → HasQueued sender next false items
    → HasQueued sender (next + packets_in (x ∷ [])) (is_end x) (items ++ x ∷ [])
queued_more sender next items x is has = record {
  numbered = numbered_push sender 0 items x has.numbered (subst (λ n. IsNext sender n x) (sym has.counted ∙ omega arith) is);
  counted = packets_in-push items x ∙ ap (λ n. n + packets_in (x ∷ [])) has.counted;
  ends = ends_with items x (is_end x) refl has.ends;
}

-- ---- a queue with one ticket more

part_own : (sender : ℕ) (queue : List Ticket) (x : Item)
    → items_from sender (queue ++ ticket_of sender x ∷ []) ≡ items_from sender queue ++ x ∷ []
part_own sender queue x = part_push sender queue (ticket_of sender x) ∙ rw (eq-eqb sender sender refl) refl

part_other : (sender other : ℕ) (queue : List Ticket) (x : Item) → other ≢ sender
    → items_from sender (queue ++ ticket_of other x ∷ []) ≡ items_from sender queue
part_other sender other queue x is =
    part_push sender queue (ticket_of other x) ∙ rw (ne_eqb other sender is) (append-nil (items_from sender queue))

module _ (submitters : ℕ) (queue : List Ticket) (numbers : List ℕ) (shut : Bool)
    (are : AreQueued submitters queue numbers shut) where
  -- what another sender queued stays as it is
  others : (sender other next : ℕ) (ended : Bool) (x : Item) → other ≢ sender
      → HasQueued sender next ended (items_from sender queue)
      → HasQueued sender next ended (items_from sender (queue ++ ticket_of other x ∷ []))
  others sender other next ended x is has =
      subst (HasQueued sender next ended) (sym (part_other sender other queue x is)) has

  no_other_sender_stays : (other : ℕ) (x : Item) → other ≤ submitters
      → (sender : ℕ) → submitters < sender → items_from sender (queue ++ ticket_of other x ∷ []) ≡ []
  no_other_sender_stays other x among sender beyond =
      part_other sender other queue x (λ same. absurd (omega (arith, same, among, beyond))) ∙ are.no_other_sender sender beyond

  pub packet_queued : (submitter : ℕ) (packet : Packet) → submitter < submitters → submitters ≤ length numbers →
      let number = get_or numbers submitter 0 in
      AreQueued submitters (queue ++ packet_ticket submitter number packet ∷ [])
      (slice_set numbers submitter (number + 1)) shut
  packet_queued submitter packet among long =
      let number = get_or numbers submitter 0 in
      let job : Numbered = record { submitter = submitter; number = number; packet = packet } in
      let x = item.Packet job in
      let next = slice_set numbers submitter (number + 1) in
      let Each : ℕ → Type 0 = λ sender. HasQueued sender (get_or next sender 0) false
      (items_from sender (queue ++ ticket_of submitter x ∷ [])) in
      let own : Each submitter =
      subst (λ n. HasQueued submitter n false (items_from submitter (queue ++ ticket_of submitter x ∷ [])))
      (omega arith ∙ sym (get_or-set_same numbers submitter (number + 1) 0 (omega (arith, among, long))))
      (subst (HasQueued submitter (number + 1) false) (sym (part_own submitter queue x))
      (queued_more submitter number (items_from submitter queue) x (refl, refl) (are.each submitter among))) in
      record {
        submitted = all-push (λ (t : Ticket). IsSubmitted submitters t.sender t.item) queue (ticket_of submitter x)
            are.submitted (refl, among);
        no_other_sender = no_other_sender_stays submitter x (omega (arith, among));
        each = λ sender below. ⊎_elim (λ (same : submitter ≡ sender). subst Each same own)
            (λ (other : submitter ≢ sender). subst
            (λ n. HasQueued sender n false (items_from sender (queue ++ ticket_of submitter x ∷ [])))
            (sym (get_or-set_other numbers submitter sender (number + 1) 0 (λ same. other (sym same))))
            (others sender submitter (get_or numbers sender 0) false x other (are.each sender below)))
            (cases_eq submitter sender);
        control = others submitters submitter 0 shut x (λ same. absurd (omega (arith, same, among))) are.control;
      }

  -- the control queues an item that isn't a packet
  pub control_queued : (item : Item) → IsSubmitted submitters submitters item → IsNext submitters 0 item
      → 0 + packets_in (item ∷ []) ≡ 0 → shut ≡ false
      → AreQueued submitters (queue ++ ticket_of submitters item ∷ []) numbers (is_end item)
  control_queued item own is none on = record {
    submitted = all-push (λ (t : Ticket). IsSubmitted submitters t.sender t.item) queue (ticket_of submitters item)
        are.submitted own;
    no_other_sender = no_other_sender_stays submitters item (omega arith);
    each = λ sender below. others sender submitters (get_or numbers sender 0) false item
        (λ same. absurd (omega (arith, same, below))) (are.each sender below);
    control = subst (λ n. HasQueued submitters n (is_end item) (items_from submitters (queue ++ ticket_of submitters item ∷ []))) none
        (subst (HasQueued submitters (0 + packets_in (item ∷ [])) (is_end item)) (sym (part_own submitters queue item))
        (queued_more submitters 0 (items_from submitters queue) item is
        (subst (λ b. HasQueued submitters 0 b (items_from submitters queue)) on are.control)));
  }

-- a packet with its submitter's next number, by what a call left
pub packet_queued_as : {submitters number : ℕ} {queue : List Ticket} {old numbers : List ℕ} {was shut : Bool}
    (submitter : ℕ) (packet : Packet) → AreQueued submitters queue old was → get_or old submitter 0 ≡ number
    → numbers ≡ old → shut ≡ was → submitter < submitters → submitters ≤ length old →
    AreQueued submitters (queue ++ packet_ticket submitter number packet ∷ []) (slice_set numbers submitter (number + 1)) shut
packet_queued_as {submitters} {queue} {old} {was} submitter packet are is numbers_are shut_is among long =
    rw (numbers_are, shut_is, sym is) (packet_queued submitters queue old was are submitter packet among long)

-- ---- a run that ends

more_ends : (count : ℕ) (queue : List Ticket)
    → queue ++ ends_of (suc count) ≡ (queue ++ ends_of count) ++ ticket_of count item.End ∷ []
more_ends count queue = sym (append_assoc queue (ends_of count) (ticket_of count item.End ∷ []))

-- who has no End among them queued what it had
part_beyond : (sender count : ℕ) (queue : List Ticket) → count ≤ sender
    → items_from sender (queue ++ ends_of count) ≡ items_from sender queue
part_beyond sender zero queue beyond = ap (items_from sender) (append-nil queue)
part_beyond sender (suc count) queue beyond =
    ap (items_from sender) (more_ends count queue)
    ∙ part_other sender count (queue ++ ends_of count) item.End (λ same. absurd (omega (arith, same, beyond)))
    ∙ part_beyond sender count queue (omega (arith, beyond))

-- each other has its End last
part_within : (sender count : ℕ) (queue : List Ticket) → sender < count
    → items_from sender (queue ++ ends_of count) ≡ items_from sender queue ++ item.End ∷ []
part_within sender zero queue within = absurd (omega (arith, within))
part_within sender (suc count) queue within =
    ap (items_from sender) (more_ends count queue) ∙ ⊎_elim
    (λ (same : count ≡ sender). subst
    (λ s. items_from s ((queue ++ ends_of count) ++ ticket_of count item.End ∷ []) ≡ items_from s queue ++ item.End ∷ []) same
    (part_own count (queue ++ ends_of count) item.End
    ∙ ap (λ items. items ++ item.End ∷ []) (part_beyond count count queue (omega arith))))
    (λ (other : count ≢ sender). part_other sender count (queue ++ ends_of count) item.End other
    ∙ part_within sender count queue (omega (arith, within, other)))
    (cases_eq count sender)

pub passes_ended : (count : ℕ) (queue : List Ticket) (closed stopped : Bool) (decisions : List Decision)
    → AreDecisions (items_in queue) closed stopped decisions → AreDecisions (items_in (queue ++ ends_of count)) closed stopped decisions
passes_ended zero queue closed stopped decisions passes =
    subst (λ (queue : List Ticket). AreDecisions (items_in queue) closed stopped decisions) (sym (append-nil queue)) passes
passes_ended (suc count) queue closed stopped decisions passes =
    subst (λ (items : List Item). AreDecisions items closed stopped decisions)
    (sym (ap items_in (more_ends count queue)
    ∙ map-append (λ (t : Ticket). t.item) (queue ++ ends_of count) (ticket_of count item.End ∷ [])))
    (passes_more false (items_in (queue ++ ends_of count)) closed stopped decisions
    (passes_ended count queue closed stopped decisions passes) item.End closed stopped decisions refl
    (sym (append-nil decisions)) (Stays refl))

submitted_ended : (submitters count : ℕ) (queue : List Ticket) → AreSubmitted submitters queue
    → AreSubmitted submitters (queue ++ ends_of count)
submitted_ended submitters zero queue are = subst (AreSubmitted submitters) (sym (append-nil queue)) are
submitted_ended submitters (suc count) queue are =
    subst (AreSubmitted submitters) (sym (more_ends count queue))
    (all-push (λ (t : Ticket). IsSubmitted submitters t.sender t.item) (queue ++ ends_of count)
    (ticket_of count item.End) (submitted_ended submitters count queue are) tt)

-- with an End of each sender that hasn't ended the queue is whole
pub queue_ended : (submitters : ℕ) (queue : List Ticket) (numbers : List ℕ) (shut : Bool)
    → AreQueued submitters queue numbers shut →
    IsQueueOf submitters (ended_queue submitters shut queue) (λ sender. items_from sender (ended_queue submitters shut queue))
queue_ended submitters queue numbers shut are = record {
  parts = λ sender among. refl;
  no_other_sender = λ sender beyond. part_beyond sender count queue (above shut sender beyond) ∙ are.no_other_sender sender beyond;
  submitted = submitted_ended submitters count queue are.submitted;
  numbered = λ sender among. (each sender among).1.numbered;
  ended = λ sender among. (each sender among).1.ends;
}
  where
    count : ℕ
    count = if shut then submitters else submitters + 1

    above : (b : Bool) (sender : ℕ) → submitters < sender → (if b then submitters else submitters + 1) ≤ sender
    above true sender beyond = omega (arith, beyond)
    above false sender beyond = omega (arith, beyond)

    -- a sender that hadn't ended
    by_end : (sender next : ℕ) → sender < count → HasQueued sender next false (items_from sender queue)
        → HasQueued sender (next + 0) true (items_from sender (queue ++ ends_of count))
    by_end sender next within has =
        subst (HasQueued sender (next + 0) true) (sym (part_within sender count queue within))
        (queued_more sender next (items_from sender queue) item.End tt has)

    below : (b : Bool) (sender : ℕ) → sender < submitters → sender < (if b then submitters else submitters + 1)
    below true sender among = among
    below false sender among = omega (arith, among)

    control : (b : Bool) → shut ≡ b → HasQueued submitters 0 true (items_from submitters (queue ++ ends_of count))
    control true is =
        subst (HasQueued submitters 0 true)
        (sym (part_beyond submitters count queue (rw is (omega arith))))
        (subst (λ b. HasQueued submitters 0 b (items_from submitters queue)) is are.control)
    control false is =
        by_end submitters 0 (rw is (omega arith))
        (subst (λ b. HasQueued submitters 0 b (items_from submitters queue)) is are.control)

    each : (sender : ℕ) → sender ≤ submitters
        → (next : ℕ) × HasQueued sender next true (items_from sender (queue ++ ends_of count))
    each sender among = ⊎_elim
        (λ (same : submitters ≡ sender). subst
        (λ s. (next : ℕ) × HasQueued s next true (items_from s (queue ++ ends_of count))) same (0, control shut refl))
        (λ (other : submitters ≢ sender). let within : sender < submitters = omega (arith, among, other) in (
          get_or numbers sender 0 + 0,
          by_end sender (get_or numbers sender 0) (below shut sender within) (are.each sender within),
        ))
        (cases_eq submitters sender)
