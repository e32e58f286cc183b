-- What a front does with one ticket: what it yields and then holds is what it held, followed by the decision on the
-- ticket.
use Rattle.std.proofs.Common.{refl, sym, ap, subst, ◌∙◌, arith, ◌≡◌, ◌<◌, ◌≤◌, ℕ, Bool, true, false, List, [], ◌∷◌, ◌++◌, length, map, get_or, append-nil, append_assoc}
use Rattle.tb_core.proofs.Words.{◌||◌, ◌==◌, filter, slice_set, if◌then◌else◌, list_any, AllByRecursion, eqb-true, eqb-false, map-append, get_or-set_same, get_or-set_other, filter-append, list_any-append, flat_map-append, Numbered, items_from, is_end, Item, Ticket, is_taken, IsGroup, Parcel, Decision, Admitted, Returned, decisions_of_item, AreDecisions, FrontState, Taken, IsFront, take_result, with_group, group_as_batch, with_end, all_ended, ends_after, take_step, step_of_packet, step_of_pulse, all_decisions_in, decisions_in, held_by, IsJoinedParcel}
use mathlib.Core.Bool.{or-true, or-false}
use Rattle.tb_core.specs.clauses.Taking.{HasTakenOne}
use Rattle.tb_work.specs.declared.item.Item.TheVariants as item
use Rattle.tb_core.specs.declared.parcel.Cause.{Cause}
use Rattle.tb_core.specs.declared.parcel.Cause.TheVariants.{Shutdown, Stopped}
use Rattle.tb_core.specs.declared.parcel.Parcel.TheVariants.{Batch, Pulse, Return}
use Rattle.tb_core.proofs.FrontDecisions.{Goes, Stays, Stops, closed_after, passes_more}

-- after a Close or a stop it holds nothing
abbrev pub IsClear : FrontState → Type 0
IsClear front = (front.closed || front.stopped) ≡ true → front.held ≡ []

abbrev pub IsAccounted : FrontState → Item → Taken → Type 0
IsAccounted front item taken =
    all_decisions_in taken.parcels ++ held_by taken.front
    ≡ held_by front ++ decisions_of_item front.closed taken.front.stopped item

abbrev front_of : ℕ → ℕ → List Numbered → Bool → Bool → List Bool → FrontState
front_of limit submitters held closed stopped ended =
    record {
      limit = limit;
      submitters = submitters;
      held = held;
      closed = closed;
      stopped = stopped;
      ended = ended;
    }

-- the front after a ticket, and the parcels that it yields, each of which has the property
pub record IsStep (P : Parcel → Type 0) (refused : Bool) (front : FrontState) (sender : ℕ) (x : Item)
    (taken : Taken) : Type 0 where
  pub accounted : IsAccounted front x taken
  pub next : taken.front ≡ front_of front.limit front.submitters taken.front.held
      (closed_after front.closed x) taken.front.stopped (ends_after front.ended sender x)
  pub goes : Goes refused front.closed front.stopped x taken.front.stopped
  pub clear : IsClear taken.front
  pub parcels : AllByRecursion P taken.parcels

sealed : (held : List Numbered) → all_decisions_in (group_as_batch held) ≡ map Admitted held
sealed [] = refl
sealed (job ∷ jobs) = append-nil (map Admitted (job ∷ jobs))

sealed_before : (held : List Numbered) (parcel : Parcel)
    → all_decisions_in (group_as_batch held ++ parcel ∷ []) ++ [] ≡ map Admitted held ++ decisions_in parcel
sealed_before held parcel =
    simp (append-nil, flat_map-append decisions_in (group_as_batch held) (parcel ∷ []), sealed held)

none_held : (held : List Numbered) (decision : Decision) → held ≡ []
    → decision ∷ map Admitted held ≡ map Admitted held ++ decision ∷ []
none_held held decision none = rw none refl

-- what is so of the group held and of all parcels that are no batch
module _ (P : Parcel → Type 0) (pulses : (moment : ℕ) → P (Pulse moment))
    (returns : (job : Numbered) (cause : Cause) → P (Return job cause)) where
  abbrev IsSealed : List Numbered → Type 0
  IsSealed held = (job : Numbered) (jobs : List Numbered) → held ≡ job ∷ jobs → P (Batch (job ∷ jobs))

  sealed_with : (held : List Numbered) (others : List Parcel) → IsSealed held → AllByRecursion P others
      → AllByRecursion P (group_as_batch held ++ others)
  sealed_with [] others one all = all
  sealed_with (job ∷ jobs) others one all = (one job jobs refl, all)

  alone : (held : List Numbered) → IsSealed held → AllByRecursion P (group_as_batch held)
  alone held one = subst (AllByRecursion P) (append-nil (group_as_batch held)) (sealed_with held [] one tt)

  module _ (limit submitters : ℕ) (ended : List Bool) (sender : ℕ) (job : Numbered) where
    packet : (refused joins : Bool) (held : List Numbered) (closed stopped : Bool) → IsSealed held → ((closed || stopped) ≡ true → held ≡ [])
        → is_taken limit held job ≡ joins →
        IsStep P refused (front_of limit submitters held closed stopped ended) sender (item.Packet job)
        (step_of_packet refused (front_of limit submitters held closed stopped ended) job)
    packet refused joins held true stopped one clear is =
        record {
          accounted = none_held held (Returned job Shutdown) (clear refl);
          next = refl;
          goes = Stays refl;
          clear = clear;
          parcels = (returns job Shutdown, tt);
        }
    packet refused joins held false true one clear is =
        record {
          accounted = none_held held (Returned job Stopped) (clear refl);
          next = refl;
          goes = Stays refl;
          clear = clear;
          parcels = (returns job Stopped, tt);
        }
    packet true joins held false false one clear is =
        record {
          accounted = sealed_before held (Return job Stopped);
          next = refl;
          goes = Stops refl refl refl refl job refl;
          clear = λ e. refl;
          parcels =
              sealed_with held (Return job Stopped ∷ []) one (returns job Stopped, tt);
        }
    packet false true held false false one clear is =
        rw is (record {
          accounted = map-append Admitted held (job ∷ []);
          next = refl;
          goes = Stays refl;
          clear = λ e. cc;
          parcels = tt;
        })
    packet false false held false false one clear is =
        rw is (record {
          accounted = ap (λ decisions. decisions ++ Admitted job ∷ []) (sealed held);
          next = refl;
          goes = Stays refl;
          clear = λ e. cc;
          parcels = alone held one;
        })

  pulse : (refused b : Bool) (front : FrontState) (sender moment : ℕ) → IsSealed front.held → IsClear front
      → (front.closed || front.stopped) ≡ b → IsStep P refused front sender (item.Pulse moment)
      (step_of_pulse front moment)
  pulse refused true front sender moment one clear is =
      rw is (record {
        accounted = rw is (sym (append-nil (held_by front)));
        next = refl;
        goes = Stays refl;
        clear = clear;
        parcels = tt;
      })
  pulse refused false front sender moment one clear is =
      rw is (record {
        accounted = rw is (sealed_before front.held (Pulse moment));
        next = refl;
        goes = Stays refl;
        clear = λ e. refl;
        parcels = sealed_with front.held (Pulse moment ∷ []) one (pulses moment, tt);
      })

  end : (refused all : Bool) (front : FrontState) (sender : ℕ) → IsSealed front.held → IsClear front →
      IsStep P refused front sender item.End (let next = with_end front sender in if all
      then take_result (with_group next []) (group_as_batch front.held) else take_result next [])
  end refused true front sender one clear =
      record {
        accounted = ap (λ decisions. decisions ++ []) (sealed front.held);
        next = refl;
        goes = Stays refl;
        clear = λ e. refl;
        parcels = alone front.held one;
      }
  end refused false front sender one clear =
      record {
        accounted = sym (append-nil (held_by front));
        next = refl;
        goes = Stays refl;
        clear = clear;
        parcels = tt;
      }

  pub is_step : (refused : Bool) (front : FrontState) (sender : ℕ) (x : Item) → IsSealed front.held → IsClear front
      → IsStep P refused front sender x (take_step refused front sender x)
  is_step refused front sender (item.Packet job) one clear =
      packet front.limit front.submitters front.ended sender job refused (is_taken front.limit front.held job) front.held
      front.closed front.stopped one clear refl
  is_step refused front sender (item.Pulse moment) one clear =
      pulse refused (front.closed || front.stopped) front sender moment one clear refl
  is_step refused front sender item.End one clear =
      end refused (all_ended (with_end front sender)) front sender one clear
  is_step refused front sender item.Close one clear =
      record {
        accounted = ap (λ decisions. decisions ++ []) (sealed front.held);
        next = refl;
        goes = Stays refl;
        clear = λ e. refl;
        parcels = alone front.held one;
      }

module _ (P : Parcel → Type 0) (refused : Bool) (front : FrontState) (sender : ℕ) (x : Item) (taken : Taken)
    (step : IsStep P refused front sender x taken) where
  -- the queue with the ticket after it
  pub passes_then : (items : List Item) (sent : List Decision)
      → AreDecisions items front.closed front.stopped (sent ++ held_by front) →
      AreDecisions (items ++ x ∷ []) taken.front.closed taken.front.stopped
      ((sent ++ all_decisions_in taken.parcels) ++ held_by taken.front)
  passes_then items sent passes =
      passes_more refused items front.closed front.stopped
      (sent ++ held_by front) passes x taken.front.closed taken.front.stopped _
      (ap (λ (f : FrontState). f.closed) step.next)
      (append_assoc sent (all_decisions_in taken.parcels) (held_by taken.front)
      ∙ ap (λ decisions. sent ++ decisions) step.accounted ∙ sym (append_assoc sent (held_by front) _)) step.goes

  -- a front whose allocation succeeds hasn't stopped
  pub goes_on : refused ≡ false → front.stopped ≡ false → taken.front.stopped ≡ false
  goes_on unrefused going = by step.goes
    where
      by : Goes refused front.closed front.stopped x taken.front.stopped → taken.front.stopped ≡ false
      by (Stays same) = same ∙ going
      by (Stops is ahead_is on stops job packet) = cc

-- ---- who has ended then

pub part_push : (sender : ℕ) (queue : List Ticket) (ticket : Ticket)
    → items_from sender (queue ++ ticket ∷ []) ≡ items_from sender queue
    ++ (if ticket.sender == sender then ticket.item ∷ [] else [])
part_push sender queue ticket =
    ap (map item_in) (filter-append is_its queue (ticket ∷ []))
    ∙ map-append item_in (filter is_its queue) (filter is_its (ticket ∷ []))
    ∙ ap (λ items. items_from sender queue ++ items) (one (ticket.sender == sender))
  where
    item_in : Ticket → Item
    item_in ticket = ticket.item

    is_its : Ticket → Bool
    is_its ticket = ticket.sender == sender

    one : (b : Bool) → map item_in (if b then ticket ∷ [] else []) ≡ (if b then ticket.item ∷ [] else [])
    one true = refl
    one false = refl

-- one ticket more in a queue for which it is known who has ended
ends_more : (ended : List Bool) (queue : List Ticket) (ticket : Ticket) (sender : ℕ) → ticket.sender < length ended
    → get_or ended sender false ≡ list_any is_end (items_from sender queue) →
    get_or (ends_after ended ticket.sender ticket.item) sender false
    ≡ list_any is_end (items_from sender (queue ++ ticket ∷ []))
ends_more ended queue ticket sender within known =
    by (is_end ticket.item) (ticket.sender == sender) refl refl
    ∙ sym (ap (list_any is_end) (part_push sender queue ticket)
    ∙ list_any-append is_end (items_from sender queue) (if ticket.sender == sender then ticket.item ∷ [] else []))
  where
    by : (end its : Bool) → is_end ticket.item ≡ end → (ticket.sender == sender) ≡ its →
        get_or (if end then slice_set ended ticket.sender true else ended) sender false
        ≡ (list_any is_end (items_from sender queue) || list_any is_end (if its then ticket.item ∷ [] else []))
    by false false e i = known ∙ sym (or-false _)
    by false true e i = rw e (known ∙ sym (or-false _))
    by true false e i =
        get_or-set_other ended ticket.sender sender true false (λ same. eqb-false ticket.sender sender i (sym same))
        ∙ known ∙ sym (or-false _)
    by true true e i =
        let same = eqb-true ticket.sender sender i in
        rw e (ap (λ n. get_or (slice_set ended ticket.sender true) n false) (sym same)
        ∙ get_or-set_same ended ticket.sender true false within ∙ sym (or-true _))

pub has_taken : (refused : Bool) (front : FrontState) (ticket : Ticket) (taken : Taken) → IsFront front
    → ticket.sender ≤ front.submitters → taken ≡ take_step refused front ticket.sender ticket.item
    → HasTakenOne refused front ticket taken
has_taken refused front ticket taken is among took_is = subst (HasTakenOne refused front ticket) (sym took_is) (record {
  took = refl;
  accounted = step.accounted;
  passes = passes_then Joined refused front sender x after step;
  lawful = step.parcels;
  ends = λ queue knows other below.
      ap (λ (f : FrontState). get_or f.ended other false) step.next
      ∙ ends_more front.ended queue ticket other (omega (arith, among, is.few, is.places))
      (knows other (subst (λ (f : FrontState). other ≤ f.submitters) step.next below));
  same = (ap (λ (f : FrontState). f.limit) step.next, ap (λ (f : FrontState). f.submitters) step.next);
  goes_on = goes_on Joined refused front sender x after step;
})
  where
    sender : ℕ
    sender = ticket.sender

    x : Item
    x = ticket.item

    Joined : Parcel → Type 0
    Joined parcel = IsJoinedParcel front.limit parcel

    after : Taken
    after = take_step refused front sender x

    step : IsStep Joined refused front sender x after
    step = is_step Joined (λ moment. tt) (λ job cause. tt) refused front sender x
        (λ job jobs held. subst (IsGroup front.limit) held is.group) is.clear
