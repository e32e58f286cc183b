-- Who pushed what: the senders of a World count what is in the history of its pushes.
use Rattle.std.proofs.Common.{refl, sym, ap, ◌∙◌, subst, arith, ◌≡◌, ◌≢◌, ◌==◌, ⊎_elim, ℕ, ◌+◌, ◌<◌, ◌≤◌, Bool, true, false, not, ◌&&◌, nat_lt, List, [], ◌∷◌, ◌++◌, length, append-nil, length-set, get_or-set_other}
use Rattle.tb_world.proofs.Words.{list_all, list_any, get_or-set_same, list_all-append, and_parts, cases_eq, eq-eqb, eqb-true, leb-true, ltb-true, ne_eqb, not-true, items_from, is_end, IsUnended, IsEnded, IsSubmitted, AreSubmitted, AreNumbered, IsQueueOf, Item, Ticket, WorldSender, may_push_item, may_push, newcomer, sender_after, sender_at, senders_after, HaveAllEnded, part_push, all-push}
use Rattle.tb_work.specs.declared.item.Item.TheVariants as item

-- ---- what may be pushed

-- a packet is its sender's own, with the next number
abbrev IsNext : ℕ → ℕ → Item → Type 0
IsNext number next (item.Packet job) = (job.submitter ≡ number) × (job.number ≡ next)
IsNext number next x = Unit {0}

record MayPush (submitters number : ℕ) (sender : WorldSender) (x : Item) : Type 0 where
  among : number ≤ submitters
  next : IsNext number sender.pushed x
  submitted : IsSubmitted submitters number x

may : (limit submitters number : ℕ) (sender : WorldSender) (pushed : Item)
    → may_push_item limit submitters number sender pushed ≡ true → MayPush submitters number sender pushed
may limit submitters number sender (item.Packet job) lawful =
    let below = and_parts (nat_lt number submitters) _ lawful in
    let own = and_parts (job.submitter == number) _ below.1 in
    let counted = and_parts (job.number == sender.pushed) _ own.1 in
    let few = ltb-true number submitters below.0 in
    record {
      among = omega (arith, few);
      next = (eqb-true job.submitter number own.0, eqb-true job.number sender.pushed counted.0);
      submitted = (eqb-true job.submitter number own.0, few);
    }
may limit submitters number sender (item.Pulse moment) lawful = let is =
    eqb-true number submitters lawful in record { among = omega (arith, is); next = tt; submitted = is }
may limit submitters number sender item.End lawful =
    record { among = leb-true number submitters lawful; next = tt; submitted = tt }
may limit submitters number sender item.Close lawful = let is =
    eqb-true number submitters lawful in record { among = omega (arith, is); next = tt; submitted = is }

-- ---- one sender

abbrev pub packets_in : List Item → ℕ
packets_in [] = 0
packets_in (item.Packet job ∷ items) = packets_in items + 1
packets_in (x ∷ items) = packets_in items

packets_in-append : (xs ys : List Item) → packets_in (xs ++ ys) ≡ packets_in xs + packets_in ys
packets_in-append [] ys = omega arith
packets_in-append (item.Packet job ∷ xs) ys = omega (arith, packets_in-append xs ys)
packets_in-append (x ∷ xs) ys = packets_in-append xs ys

numbered_push : (number next : ℕ) (items : List Item) (x : Item) → AreNumbered number next items
    → IsNext number (next + packets_in items) x → AreNumbered number next (items ++ x ∷ [])
numbered_push number next [] (item.Packet job) all is = (is.0, is.1 ∙ omega arith, tt)
numbered_push number next [] x all is = tt
numbered_push number next (item.Packet job ∷ items) x all is =
    (all.0, all.1, numbered_push number (next + 1) items x all.2 (subst (λ n. IsNext number n x) (omega arith) is))
numbered_push number next (first ∷ items) x all is = numbered_push number next items x all is

-- a sender has pushed these
pub record HasPushed (number : ℕ) (sender : WorldSender) (items : List Item) : Type 0 where
  pub numbered : AreNumbered number 0 items
  pub counted : sender.pushed ≡ packets_in items
  pub goes_on : sender.ended ≡ false → IsUnended items
  pub ended : sender.ended ≡ true → IsEnded items

unended_push : (items : List Item) (x : Item) → IsUnended items → is_end x ≡ false → IsUnended (items ++ x ∷ [])
unended_push items x all goes =
    list_all-append (λ x. not (is_end x)) items (x ∷ []) ∙ ap (λ b. b && (not (is_end x) && true)) all
    ∙ ap (λ b. not b && true) goes

ended_by : (items : List Item) (x : Item) → IsUnended items → is_end x ≡ true → IsEnded (items ++ x ∷ [])
ended_by items x all ends = record { body = items; last = x; parts = refl; unended = all; ends = ends }

pushed_more : (number : ℕ) (sender : WorldSender) (items : List Item) (pushed : Item) → sender.ended ≡ false
    → IsNext number sender.pushed pushed → HasPushed number sender items
    → HasPushed number (sender_after sender pushed) (items ++ pushed ∷ [])
pushed_more number sender items pushed goes next has =
    by pushed (numbered_push number 0 items pushed has.numbered
    (subst (λ n. IsNext number n pushed) (has.counted ∙ omega arith) next)) (packets_in-append items (pushed ∷ []))
  where
    unended : IsUnended items
    unended = has.goes_on goes

    by : (pushed : Item) → AreNumbered number 0 (items ++ pushed ∷ [])
        → packets_in (items ++ pushed ∷ []) ≡ packets_in items + packets_in (pushed ∷ [])
        → HasPushed number (sender_after sender pushed) (items ++ pushed ∷ [])
    by (item.Packet job) all count = record {
      numbered = all;
      counted = omega (arith, has.counted, count);
      goes_on = λ on. unended_push items (item.Packet job) unended refl;
      ended = λ over. (let e = sym goes ∙ over in cc);
    }
    by (item.Pulse moment) all count = record {
      numbered = all;
      counted = omega (arith, has.counted, count);
      goes_on = λ on. unended_push items (item.Pulse moment) unended refl;
      ended = λ over. (let e = sym goes ∙ over in cc);
    }
    by item.End all count = record {
      numbered = all;
      counted = omega (arith, has.counted, count);
      goes_on = λ on. cc;
      ended = λ over. ended_by items item.End unended refl;
    }
    by item.Close all count = record {
      numbered = all;
      counted = omega (arith, has.counted, count);
      goes_on = λ on. cc;
      ended = λ over. ended_by items item.Close unended refl;
    }

-- ---- all senders

pub record HavePushed (submitters : ℕ) (pushed : List Ticket) (senders : List WorldSender) : Type 0 where
  pub long : length senders ≡ submitters + 1
  pub submitted : AreSubmitted submitters pushed
  pub no_other_sender : (sender : ℕ) → submitters < sender → items_from sender pushed ≡ []
  pub each : (sender : ℕ) → sender ≤ submitters → HasPushed sender (sender_at senders sender) (items_from sender pushed)

pub none_pushed : (submitters : ℕ) (senders : List WorldSender) → length senders ≡ submitters + 1
    → ((sender : ℕ) → sender ≤ submitters → sender_at senders sender ≡ newcomer) → HavePushed submitters [] senders
none_pushed submitters senders long new = record {
  long = long;
  submitted = tt;
  no_other_sender = λ sender beyond. refl;
  each = λ sender among. subst (λ s. HasPushed sender s []) (sym (new sender among))
      (record { numbered = tt; counted = refl; goes_on = λ on. refl; ended = λ over. cc });
}

part_of_others : (sender : ℕ) (queue : List Ticket) (ticket : Ticket) → ticket.sender ≢ sender
    → items_from sender (queue ++ ticket ∷ []) ≡ items_from sender queue
part_of_others sender queue ticket other =
    part_push sender queue ticket ∙ rw (ne_eqb ticket.sender sender other) (append-nil (items_from sender queue))

pub push_counted : (limit submitters : ℕ) (pushed : List Ticket) (senders : List WorldSender) (ticket : Ticket)
    → may_push limit submitters ticket.sender (sender_at senders ticket.sender) ticket.item ≡ true
    → HavePushed submitters pushed senders →
    HavePushed submitters (pushed ++ ticket ∷ []) (senders_after senders ticket)
push_counted limit submitters pushed senders ticket lawful have =
    let old = sender_at senders ticket.sender in
    let new = sender_after old ticket.item in
    let both = and_parts (not old.ended) (may_push_item limit submitters ticket.sender old ticket.item) lawful in
    let is = may limit submitters ticket.sender old ticket.item both.1 in
    let Each : ℕ → Type 0 = λ sender. HasPushed sender (sender_at (senders_after senders ticket) sender)
    (items_from sender (pushed ++ ticket ∷ [])) in
    let its : Each ticket.sender =
    subst (λ s. HasPushed ticket.sender s (items_from ticket.sender (pushed ++ ticket ∷ [])))
    (sym (get_or-set_same senders ticket.sender new newcomer (omega (arith, have.long, is.among))))
    (subst (HasPushed ticket.sender new) (sym (part_push ticket.sender pushed ticket
    ∙ rw (eq-eqb ticket.sender ticket.sender refl) refl))
    (pushed_more ticket.sender old (items_from ticket.sender pushed) ticket.item (not-true old.ended both.0) is.next
    (have.each ticket.sender is.among))) in
    let others : (sender : ℕ) → sender ≤ submitters → ticket.sender ≢ sender → Each sender = λ sender among other.
    subst (λ s. HasPushed sender s (items_from sender (pushed ++ ticket ∷ [])))
    (sym (get_or-set_other senders ticket.sender sender new newcomer (λ same. other (sym same))))
    (subst (HasPushed sender (sender_at senders sender)) (sym (part_of_others sender pushed ticket other))
    (have.each sender among)) in
    record {
      long = length-set senders ticket.sender new ∙ have.long;
      submitted = all-push (λ (t : Ticket). IsSubmitted submitters t.sender t.item) pushed ticket have.submitted is.submitted;
      no_other_sender = λ sender beyond. part_of_others sender pushed ticket
          (λ same. absurd (omega (arith, is.among, beyond, same))) ∙ have.no_other_sender sender beyond;
      each = λ sender among. ⊎_elim (λ (same : ticket.sender ≡ sender). subst Each same its) (others sender among)
          (cases_eq ticket.sender sender);
    }

-- ---- what that makes of the queue

not_both : (items : List Item) → list_all (λ x. not (is_end x)) items ≡ true → list_any is_end items ≡ true → ⊥
not_both [] all any = cc
not_both (item.End ∷ items) all any = cc
not_both (item.Close ∷ items) all any = cc
not_both (x ∷ items) all any = not_both items all any

has_ended : (number : ℕ) (sender : WorldSender) (items : List Item) → HasPushed number sender items
    → list_any is_end items ≡ true → IsEnded items
has_ended number sender items has any = by sender.ended refl
  where
    by : (b : Bool) → sender.ended ≡ b → IsEnded items
    by true over = has.ended over
    by false on = absurd (not_both items (has.goes_on on) any)

pub numbered_by : (submitters : ℕ) (pushed : List Ticket) (senders : List WorldSender)
    → HavePushed submitters pushed senders → (sender : ℕ) → sender ≤ submitters
    → AreNumbered sender 0 (items_from sender pushed)
numbered_by submitters pushed senders have sender among = (have.each sender among).numbered

pub queue_of_all : (submitters : ℕ) (pushed : List Ticket) (senders : List WorldSender)
    → HavePushed submitters pushed senders → HaveAllEnded submitters pushed
    → IsQueueOf submitters pushed (λ sender. items_from sender pushed)
queue_of_all submitters pushed senders have over = record {
  parts = λ sender among. refl;
  no_other_sender = have.no_other_sender;
  submitted = have.submitted;
  numbered = numbered_by submitters pushed senders have;
  ended = λ sender among. has_ended sender (sender_at senders sender) (items_from sender pushed)
      (have.each sender among) (over sender among);
}
