-- What was taken of a sender, with its end, is all that it queued.
use Rattle.std.proofs.Common.{◌≡◌, ◌≢◌, ◌<◌, ◌≤◌, ◌⊎◌, inl, inr, ⊎_elim, ℕ, zero, suc, ◌+◌, Bool, true, false, true≢false, List, [], ◌∷◌, ◌++◌, map, length, get_or, sym, refl, ap, ◌∙◌, subst, arith, append-nil, nat_lt}
use Rattle.tb_submit.proofs.Words.{◌==◌, ◌||◌, ◌&&◌, not, filter, if◌then◌else◌, list_any, AllByRecursion, eq-eqb, nat_tests, items_from, is_end, IsUnended, IsEnded, IsSubmitted, IsQueueOf, Item, Close, Ticket, PassEntry, EndedState, IntakeState, Seat, SenderState, control_seat, queued_by, seat_at, AreUnended, entry_of, AreAheadOfClose, AreWithin, BeginsWith, IsCompleteQueue, IsWithin, IsWhole, entry}
use Rattle.tb_submit.proofs.RuleSteps.{part_append, stands_in}

-- ---- a part with its end

nothing_left : {A : Type 0} (xs ys : List A) → xs ++ ys ≡ [] → ys ≡ []
nothing_left [] ys e = e
nothing_left (x ∷ xs) ys e = cc

before_nothing : {A : Type 0} (xs ys : List A) → xs ++ ys ≡ [] → xs ≡ []
before_nothing [] ys e = refl
before_nothing (x ∷ xs) ys e = cc

or_parts : (a b : Bool) → (a || b) ≡ true → (a ≡ true) ⊎ (b ≡ true)
or_parts true b e = inl refl
or_parts false b e = inr e

pub and_parts : (a b : Bool) → (not a && b) ≡ true → (a ≡ false) × (b ≡ true)
and_parts true b e = absurd (true≢false (sym e))
and_parts false b e = (refl, e)

pub and_made : (a b : Bool) → a ≡ false → b ≡ true → (not a && b) ≡ true
and_made true b a_is b_is = absurd (true≢false a_is)
and_made false b a_is b_is = b_is

after_end : (body : List Item) (last : Item) (xs ys : List Item) → IsUnended body → xs ++ ys ≡ body ++ last ∷ []
    → list_any is_end xs ≡ true → ys ≡ []
after_end body last [] ys clear is has = absurd (true≢false (sym has))
after_end [] last (x ∷ xs) ys clear is has = nothing_left xs ys cc
after_end (b ∷ body) last (x ∷ xs) ys clear is has =
    let first : x ≡ b = cc in
    let rest : xs ++ ys ≡ body ++ last ∷ [] = cc in
    let none = and_parts (is_end b) _ clear in
    ⊎_elim (λ (t : is_end x ≡ true). absurd (true≢false (sym t ∙ ap is_end first ∙ none.0)))
    (λ t. after_end body last xs ys none.1 rest t) (or_parts (is_end x) (list_any is_end xs) has)

nothing_more : {A : Type 0} (xs ys : List A) → xs ++ ys ≡ xs → ys ≡ []
nothing_more [] ys e = e
nothing_more (x ∷ xs) ys e = nothing_more xs ys cc

-- what was taken, with an end in it, of a list that ends there
whole_part : (items xs ys : List Item) → IsEnded items → xs ++ ys ≡ items → list_any is_end xs ≡ true → xs ≡ items
whole_part items xs ys ended is has =
    sym (append-nil xs) ∙ ap (λ rest. xs ++ rest)
    (sym (after_end ended.body ended.last xs ys ended.unended (is ∙ ended.parts) has)) ∙ is

-- ---- by rising number

entry_at : (P : PassEntry → Type 0) (ends : List EndedState) (last : PassEntry)
    → AllByRecursion P (map entry_of ends ++ last ∷ []) → (k : ℕ) (d : EndedState) → k < length ends
    → P (entry_of (get_or ends k d))
entry_at P [] last all k d below = absurd (omega (arith, below))
entry_at P (ended ∷ ends) last all zero d below = all.0
entry_at P (ended ∷ ends) last all (suc k) d below = entry_at P ends last all.1 k d (omega (arith, below))

last_entry : (P : PassEntry → Type 0) (ends : List EndedState) (last : PassEntry)
    → AllByRecursion P (map entry_of ends ++ last ∷ []) → P last
last_entry P [] last all = all.0
last_entry P (ended ∷ ends) last all = last_entry P ends last all.1

pub by_number : (F : ℕ → List Item → Type 0) (ends : List EndedState) (control : SenderState)
    → ((k : ℕ) (d : EndedState) → k < length ends → F k (get_or ends k d).queued) → F (length ends) control.queued →
    (sender : ℕ) → sender ≤ length ends → F sender (queued_by ends control sender)
by_number F [] control each last zero below = last
by_number F [] control each last (suc sender) below = absurd (omega (arith, below))
by_number F (ended ∷ ends) control each last zero below = each 0 ended (omega arith)
by_number F (ended ∷ ends) control each last (suc sender) below =
    by_number (λ k. F (suc k)) ends control (λ k d within. each (suc k) d (omega (arith, within))) last
    sender (omega (arith, below))

-- ---- what holds of each part holds of the queue

abbrev part_if : Bool → Ticket → ℕ → List Ticket → List Item
part_if b ticket sender queue =
    map (λ (t : Ticket). t.item) (if b then ticket ∷ filter (λ (t : Ticket). t.sender == sender) queue
    else filter (λ (t : Ticket). t.sender == sender) queue)

all_after : (P : Item → Type 0) (b : Bool) (ticket : Ticket) (sender : ℕ) (queue : List Ticket)
    → AllByRecursion P (part_if b ticket sender queue) → AllByRecursion P (items_from sender queue)
all_after P true ticket sender queue all = all.1
all_after P false ticket sender queue all = all

all_of_parts : (P : ℕ → Item → Type 0) (queue : List Ticket)
    → ((sender : ℕ) → AllByRecursion (P sender) (items_from sender queue))
    → AllByRecursion (λ (ticket : Ticket). P ticket.sender ticket.item) queue
all_of_parts P [] each = tt
all_of_parts P (ticket ∷ queue) each = (
  (subst (AllByRecursion (P ticket.sender)) (ap (λ b. part_if b ticket ticket.sender queue)
      (eq-eqb ticket.sender ticket.sender refl)) (each ticket.sender)).0,
  all_of_parts P queue (λ sender. all_after (P sender) (ticket.sender == sender) ticket sender queue (each sender)),
)

within_or_above : (n m : ℕ) → (n ≤ m) ⊎ (m < n)
within_or_above n m = by (nat_lt m n) refl
  where
    above : nat_lt m n ≡ true → m < n
    above is = grind (arith, nat_tests)

    within : nat_lt m n ≡ false → n ≤ m
    within is = grind (arith, nat_tests)

    by : (b : Bool) → nat_lt m n ≡ b → (n ≤ m) ⊎ (m < n)
    by true is = inr (above is)
    by false is = inl (within is)

-- ---- all senders of a queue

-- a sender's part was taken whole, and nothing of it is among those that are left
abbrev IsDrained : IntakeState → List Ticket → ℕ → List Item → Type 0
IsDrained intake left sender items =
    (items_from sender intake.taken ≡ items) × IsCompleteQueue intake.limit intake.submitters sender items
    × (items_from sender left ≡ [])

-- all that it queued is complete, with its end
abbrev pub IsFiled : EndedState → Type 0
IsFiled e = IsCompleteQueue e.origin.seat.limit e.origin.seat.submitters e.origin.seat.number e.queued

-- all have ended, and the end of each was taken
pub record AreSettled (intake : IntakeState) (ends : List EndedState) (control : SenderState) : Type 0 where
  pub long : length ends ≡ intake.submitters
  pub seats : (k : ℕ) (d : EndedState) → k < length ends → (get_or ends k d).origin.seat ≡ seat_at intake k
  pub filed : (k : ℕ) (d : EndedState) → k < length ends → IsFiled (get_or ends k d)
  pub control_seat_is : control.seat ≡ control_seat intake
  pub control_filed : IsCompleteQueue control.seat.limit control.seat.submitters control.seat.number control.queued
  pub items : List Ticket
  pub whole : IsWhole (map entry_of ends ++ entry control.seat.number control.queued ∷ []) intake.taken
      (intake.submitters + 1) control.learned items
  pub unended : AreUnended control.seat.number control.learned
  pub finished : (sender : ℕ) → sender ≤ intake.submitters → list_any is_end (items_from sender intake.taken) ≡ true

drained : (intake : IntakeState) (items : List Ticket) (number : ℕ) {seat : Seat} (queued : List Item)
    → seat ≡ seat_at intake number → IsCompleteQueue seat.limit seat.submitters seat.number queued →
    items_from seat.number (intake.taken ++ items) ≡ queued → list_any is_end (items_from number intake.taken) ≡ true
    → IsDrained intake items number queued
drained intake items number queued seat_is filed is has =
    let mine : IsCompleteQueue intake.limit intake.submitters number queued = subst
    (λ (s : Seat). IsCompleteQueue s.limit s.submitters s.number queued) seat_is filed in
    let all : items_from number (intake.taken ++ items)
    ≡ queued = subst (λ (s : Seat). items_from s.number (intake.taken ++ items) ≡ queued) seat_is is in
    let parts = sym (part_append number intake.taken items) ∙ all in
    let whole = whole_part queued (items_from number intake.taken) (items_from number items) mine.ended parts has in
    (whole, mine, nothing_more (items_from number intake.taken) (items_from number items) (parts ∙ sym whole))

no_part : (items : List Ticket) → ((sender : ℕ) → items_from sender items ≡ []) → items ≡ []
no_part [] none = refl
no_part (ticket ∷ items) none = absurd (stands_in [] items ticket (none ticket.sender))

all_front : {A : Type 0} (P : A → Type 0) (xs ys : List A) → AllByRecursion P (xs ++ ys) → AllByRecursion P xs
all_front P [] ys all = tt
all_front P (x ∷ xs) ys all = (all.0, all_front P xs ys all.1)

unended_after : (b : Bool) (ticket : Ticket) (sender : ℕ) (queue : List Ticket)
    → IsUnended (part_if b ticket sender queue) → IsUnended (items_from sender queue)
unended_after true ticket sender queue clear = (and_parts (is_end ticket.item) _ clear).1
unended_after false ticket sender queue clear = clear

-- a Close is the control's, so it is an end of the control's part
no_close : (submitters : ℕ) (seen : List Ticket)
    → AllByRecursion (λ (ticket : Ticket). IsSubmitted submitters ticket.sender ticket.item) seen
    → IsUnended (items_from submitters seen) → AllByRecursion (λ (ticket : Ticket). ticket.item ≢ Close) seen
no_close submitters [] own clear = tt
no_close submitters (ticket ∷ seen) own clear = (
  (λ (closes : ticket.item ≡ Close).
      let control : ticket.sender ≡ submitters = subst (IsSubmitted submitters ticket.sender) closes own.0 in
      let first : IsUnended (part_if true ticket submitters seen) =
      subst (λ b. IsUnended (part_if b ticket submitters seen)) (eq-eqb ticket.sender submitters control) clear in
      true≢false (sym (ap is_end closes) ∙ (and_parts (is_end ticket.item) _ first).0)),
  no_close submitters seen own.1 (unended_after (ticket.sender == submitters) ticket submitters seen clear),
)

module _ {intake : IntakeState} {ends : List EndedState} {control : SenderState} (is : AreSettled intake ends control) where
  all_drained : (sender : ℕ) → sender ≤ intake.submitters
      → IsDrained intake is.items sender (queued_by ends control sender)
  all_drained sender below =
      let IsPart : PassEntry → Type 0 = λ e. items_from e.number (intake.taken ++ is.items) ≡ e.pushed in
      let last = entry control.seat.number control.queued in
      by_number (IsDrained intake is.items) ends control
      (λ k d within. drained intake is.items k (get_or ends k d).queued (is.seats k d within) (is.filed k d within)
      (entry_at IsPart ends last is.whole.0 k d within) (is.finished k (omega (arith, within, is.long))))
      (subst (λ n. IsDrained intake is.items n control.queued) (sym is.long)
      (drained intake is.items intake.submitters control.queued is.control_seat_is is.control_filed
      (last_entry IsPart ends last is.whole.0) (is.finished intake.submitters (omega arith))))
      sender (omega (arith, below, is.long))

  none_above : (sender : ℕ) → intake.submitters < sender
      → items_from sender intake.taken ++ items_from sender is.items ≡ []
  none_above sender above =
      sym (part_append sender intake.taken is.items) ∙ is.whole.1 sender (omega (arith, above))

  -- what holds of all that each sender queued holds of what was taken
  each_part : (P : ℕ → Item → Type 0)
      → ((sender : ℕ) (items : List Item) → IsCompleteQueue intake.limit intake.submitters sender items
      → AllByRecursion (P sender) items) → AllByRecursion (λ (ticket : Ticket). P ticket.sender ticket.item) intake.taken
  each_part P each = all_of_parts P intake.taken (λ sender. ⊎_elim
      (λ (below : sender ≤ intake.submitters). let own = all_drained sender below in subst
      (AllByRecursion (P sender)) (sym own.0) (each sender _ own.1))
      (λ (above : intake.submitters < sender). subst (AllByRecursion (P sender))
      (sym (before_nothing _ (items_from sender is.items) (none_above sender above))) tt)
      (within_or_above sender intake.submitters))

  pub settled_queue : IsQueueOf intake.submitters intake.taken (queued_by ends control)
  settled_queue = record {
    parts = λ sender below. (all_drained sender below).0;
    no_other_sender = λ sender above. before_nothing _ (items_from sender is.items) (none_above sender above);
    submitted = each_part (IsSubmitted intake.submitters) (λ sender items filed. filed.submitted);
    numbered = λ sender below. (all_drained sender below).1.numbered;
    ended = λ sender below. (all_drained sender below).1.ended;
  }

  pub settled_within : AreWithin intake.limit intake.taken
  settled_within = each_part (λ sender. IsWithin intake.limit) (λ sender items filed. filed.within)

  -- ---- what is ahead of the Close

  -- nothing is left once all was taken
  none_left : is.items ≡ []
  none_left = no_part is.items (λ sender. ⊎_elim
      (λ (below : sender ≤ intake.submitters). (all_drained sender below).2)
      (λ (above : intake.submitters < sender). nothing_left (items_from sender intake.taken) _ (none_above sender above))
      (within_or_above sender intake.submitters))

  pub settled_ahead : AllByRecursion (AreAheadOfClose intake.taken) control.learned
  settled_ahead =
      let all : intake.taken ++ is.items ≡ intake.taken =
      ap (λ left. intake.taken ++ left) none_left ∙ append-nil intake.taken in
      both control.learned (subst (λ tickets. AllByRecursion (BeginsWith tickets) control.learned) all is.whole.2)
      (subst (λ (seat : Seat). AllByRecursion (λ seen. IsUnended (items_from seat.number seen)) control.learned)
      is.control_seat_is is.unended)
    where
      both : (learned : List (List Ticket)) → AllByRecursion (BeginsWith intake.taken) learned
          → AllByRecursion (λ seen. IsUnended (items_from intake.submitters seen)) learned
          → AllByRecursion (AreAheadOfClose intake.taken) learned
      both [] begin unended = tt
      both (seen ∷ learned) begin unended = (
        (
          begin.0,
          no_close intake.submitters seen (all_front _ seen begin.0.0 (subst (AllByRecursion (λ (ticket : Ticket).
              IsSubmitted intake.submitters ticket.sender ticket.item)) (sym begin.0.1) settled_queue.submitted)) unended.0,
        ),
        both learned begin.1 unended.1,
      )
