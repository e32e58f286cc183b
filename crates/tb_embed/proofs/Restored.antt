-- A packet that is committed by itself while nothing is held.
use Rattle.std.proofs.Common.{◌≡◌, if◌then◌else◌, nat_lt, None, Some, Option, refl, sym, ap, ◌∙◌, subst, arith, ℕ, ◌+◌, ◌<◌, ◌≤◌, Bool, true, false, ◌&&◌, ◌||◌, List, [], ◌∷◌, ◌++◌, length, get_or, append-nil, length-append}
use Rattle.tb_embed.proofs.Words.{map-append, nil_from_length, Ahead, LedgerState, ServingIsLawful, IsReply, inputs, items_in, packets_in, ◌==◌, not, nat_tests, slice_set, places_max, Numbered, Ticket, Packet, ReplyValue, FrontState, IsFront, group_as_batch, take_result, take_step, with_group, Pulse, Decision, BareLedgerState, HasSent, halts, EngineState, Continues, Queues, Serves, packet_ticket, ticket_of, places_in}
use Rattle.tb_batch.specs.claim.Grouping.{is_taken}
use Rattle.tb_core.specs.claim.Front.{step_of_packet}
use Rattle.tb_work.specs.claim.Job.{numbered_packet}
use Rattle.tb_work.specs.declared.item.Item.TheVariants as item
use Rattle.tb_work.specs.declared.refusal.Refusal.{Refusal}
use Rattle.tb_embed.specs.clauses.Engine.{has_stopped, refusal_of_pulse, submit_refusal}
use Rattle.tb_embed.specs.clauses.Restoring.{RestoresPacket, RestoresTicket, RestoresUnseen, fault_of, is_idle, is_next_place, packet_fault}
use Rattle.tb_embed.specs.declared.restoring.PlacedPacket.{PlacedPacket}
use Rattle.tb_embed.specs.declared.restoring.RestoreFault.TheVariants.{InUse}
use Rattle.tb_work.specs.declared.refusal.Refusal.TheVariants.{MomentTooLarge, Shutdown, Stopped}
use Rattle.tb_layout.specs.claim.Bounds.{moment_max}
use Rattle.tb_embed.proofs.Parcels.{halts_at_none, nothing_held, ticket_taken}
use Rattle.tb_embed.proofs.EngineRun.{Took, packet_serves}
use Rattle.tb_embed.proofs.Queued.{packets_in-push}
use Rattle.tb_embed.proofs.Replies.{due_counted}

-- what an idle engine is
record IsIdle (engine : EngineState) : Type 0 where
  empty : engine.front.held ≡ []
  unclosed : engine.front.closed ≡ false
  goes : engine.front.stopped ≡ false
  unread : engine.unread ≡ []

none_of : {X : Type 0} (xs : List X) → (length xs == 0) ≡ true → xs ≡ []
none_of [] is = refl
none_of (x ∷ xs) is = grind (arith, nat_tests, is)

idle_is : (engine : EngineState) → is_idle engine ≡ true → IsIdle engine
idle_is engine is = record {
  empty = none_of engine.front.held (grind (arith, is));
  unclosed = grind (arith, is);
  goes = grind (arith, is);
  unread = none_of engine.unread (grind (arith, is));
}

-- one packet or pulse more doesn't stop a ledger that has a place left
goes_on : (ledger : BareLedgerState) → ledger.places < places_max → ledger.stopped ≡ false → halts ledger 1 ≡ false
goes_on ledger room on = grind (arith, nat_tests, room, on)

-- one of two that are the same, unless one of two conditions holds
module _ {X : Type 0} (a b : X) where
  either : (first second third : Bool) {x y z : X} → first ≡ false → second ≡ false → x ≡ z → y ≡ z
      → (if first then a else if second then b else if third then x else y) ≡ z
  either false false true unclosed goes one other = one
  either false false false unclosed goes one other = other
  either false true third unclosed goes one other = cc
  either true second third unclosed goes one other = cc

-- it begins a group
begins : (front : FrontState) (job : Numbered) → front.held ≡ [] → front.closed ≡ false → front.stopped ≡ false
    → take_result (with_group front (job ∷ [])) [] ≡ step_of_packet false front job
begins front job empty unclosed goes =
    sym (either _ _ front.closed front.stopped (is_taken front.limit front.held job) unclosed goes
    (ap (λ held. take_result (with_group front (held ++ job ∷ [])) []) empty)
    (ap (λ held. take_result (with_group front (job ∷ [])) (group_as_batch held)) empty))

module _ (old : EngineState) (submitter number : ℕ) (packet : Packet) (sound : IsFront old.front) (idle : is_idle old ≡ true) where
  abbrev job : Numbered
  job = numbered_packet submitter number packet

  abbrev ticket : Ticket
  ticket = packet_ticket submitter number packet

  abbrev begun : FrontState
  begun = with_group old.front (job ∷ [])

  abbrev numbers : List ℕ
  numbers = slice_set old.numbers submitter (number + 1)

  is : IsIdle old
  is = idle_is old idle

  -- the front begins a group with it
  step : take_result begun [] ≡ take_step false old.front submitter (item.Packet job)
  step = begins old.front job is.empty is.unclosed is.goes

  pub released : with_group begun [] ≡ old.front
  released = nothing_held old.front is.empty

  -- it is held
  took : submitter ≤ old.front.submitters → old.ledger.places ≤ places_max → Took old ticket (record old { front = begun })
  took among few = record {
    takes = λ start items read has.
        let was = λ (limit : ℕ) (sent : List Decision). HasSent start limit sent old.ledger (read ++ old.unread) in
        ticket_taken was was ticket sound among step (λ sent joined had. subst (was old.front.limit) (sym (append-nil sent)) had) has;
    steps = ap (λ t. t.front) step;
    stopped = halts_at_none old.ledger few ∙ ap (λ t. halts old.ledger (places_in t.parcels)) step;
    sound = sound;
    same = (refl, refl, refl, refl);
  }

  -- it is committed
  pub alone_restores : (new : EngineState) → submitter < old.front.submitters → old.front.submitters ≤ length old.numbers
      → old.ledger.places < places_max → has_stopped old ≡ false → get_or old.numbers submitter 0 ≡ number
      → Continues (record old { front = begun; numbers = numbers }) new → RestoresTicket old ticket new
  alone_restores new among long room on next committed =
      let queued : Queues old ticket (record old { front = begun; numbers = numbers }) =
      packet_serves submitter number packet next (took (omega (arith, among)) (omega (arith, room))) among long in
      record {
        adds = λ start queue read serves. committed.adds start (queue ++ ticket ∷ []) read (queued.adds start queue read serves);
        held = ap (λ (front : FrontState). front.held) committed.seals;
        goes = committed.stopped ∙ goes_on old.ledger room on;
      }

-- it is taken out again
pub first_is : (x y : Numbered) → x ∷ [] ≡ y ∷ [] → x ≡ y
first_is x y same = ap (λ jobs. first jobs) same
  where
    first : List Numbered → Numbered
    first [] = x
    first (job ∷ jobs) = job

pub same_engine : (engine : EngineState) (front : FrontState) (ledger : BareLedgerState) (unread : List ReplyValue) → front ≡ engine.front
    → ledger ≡ engine.ledger → unread ≡ engine.unread → record engine { front = front; ledger = ledger; unread = unread } ≡ engine
same_engine engine front ledger unread fronts ledgers unreads = rw (fronts, ledgers, unreads) refl

-- its reply counts as read
module _ (lawful : ServingIsLawful) (old middle new : EngineState) (entry : PlacedPacket) where
  abbrev Is : Type 0
  Is = (is_idle old ≡ true) × RestoresPacket old entry middle

  -- it is the only one
  one_comes : (start : LedgerState) (queue : List Ticket) (read : List ReplyValue) → Is → Serves start queue read old
      → length middle.unread ≡ 1
  one_comes start queue read (idle, restores) serves =
      let is = idle_is old idle in
      let ticket = packet_ticket entry.submitter entry.number entry.packet in
      let before = lawful start queue read old serves in
      let after = lawful start (queue ++ ticket ∷ []) read middle (restores.adds start queue read serves) in
      let place = Ahead (length (inputs start)) in
      omega (
        arith,
        ap length is.unread,
        length-append read old.unread,
        ap length (before.replied is.empty),
        due_counted start.opening (inputs before.ledger) place (items_in queue),
        length-append read middle.unread,
        ap length (after.replied restores.held),
        due_counted start.opening (inputs after.ledger) place (items_in (queue ++ ticket ∷ [])),
        ap packets_in (map-append (λ (t : Ticket). t.item) queue (ticket ∷ [])),
        packets_in-push (items_in queue) ticket.item,
      )

  pub unseen : (result : Option ReplyValue) → Is → IsReply middle result new → RestoresUnseen old entry new
  unseen None is reply = record {
    replies = [];
    adds = λ start queue read serves. subst (λ engine. Serves start (queue ++ packet_ticket entry.submitter entry.number entry.packet ∷ []) (read ++ []) engine)
        (sym reply.1) (subst (λ read. Serves start (queue ++ packet_ticket entry.submitter entry.number entry.packet ∷ []) read middle)
        (sym (append-nil read)) (is.1.adds start queue read serves));
    held = ap (λ (engine : EngineState). engine.front.held) reply.1 ∙ is.1.held;
    goes = ap has_stopped reply.1 ∙ is.1.goes;
    unread = λ start queue read serves. ap (λ (engine : EngineState). engine.unread) reply.1 ∙ reply.0;
  }
  unseen (Some one) is reply = record {
    replies = one ∷ [];
    adds = λ start queue read serves. reply.0.adds start (queue ++ packet_ticket entry.submitter entry.number entry.packet ∷ []) read
        (is.1.adds start queue read serves);
    held = ap (λ (front : FrontState). front.held) reply.0.stays ∙ is.1.held;
    goes = ap (λ (ledger : BareLedgerState). ledger.stopped) reply.0.same ∙ is.1.goes;
    unread = λ start queue read serves.
        nil_from_length new.unread (omega (arith, one_comes start queue read is serves, ap length reply.1));
  }

-- ---- why an entry isn't restored

-- of an idle engine
pub packet_fault_is : (engine : EngineState) (entry : PlacedPacket) (refused : Option Refusal) (is_next : Bool) → is_idle engine ≡ true
    → submit_refusal engine entry.submitter entry.packet ≡ refused
    → (is_next_place engine entry.place && (entry.number == get_or engine.numbers entry.submitter 0)) ≡ is_next
    → packet_fault engine entry ≡ fault_of refused is_next
packet_fault_is engine entry refused is_next idle refusal next = rw (idle, refusal, next) refl

no_fault : (idle : Bool) (refused : Option Refusal) (is_next : Bool)
    → (if not idle then Some InUse else fault_of refused is_next) ≡ None → is_next ≡ true
no_fault true None true none = refl
no_fault true None false none = cc
no_fault true (Some refusal) is_next none = cc
no_fault false refused is_next none = cc

pub is_idle_unless_refused : (engine : EngineState) (entry : PlacedPacket) → packet_fault engine entry ≡ None → is_idle engine ≡ true
is_idle_unless_refused engine entry none = by (is_idle engine) _ _ none
  where
    by : (idle : Bool) (refused : Option Refusal) (is_next : Bool)
        → (if not idle then Some InUse else fault_of refused is_next) ≡ None → idle ≡ true
    by true refused is_next none = refl
    by false refused is_next none = cc

-- there is a next place
pub has_place : (engine : EngineState) (place : ℕ) → is_next_place engine place ≡ true → engine.ledger.places < places_max
has_place engine place is = grind (arith, nat_tests, is)

-- without a fault the packet has its submitter's next number
pub has_next_number : (engine : EngineState) (entry : PlacedPacket) → packet_fault engine entry ≡ None
    → get_or engine.numbers entry.submitter 0 ≡ entry.number
has_next_number engine entry none =
    let is_next = no_fault (is_idle engine) (submit_refusal engine entry.submitter entry.packet) _ none in
    grind (arith, nat_tests, is_next)

pub open_if_not_refused : (stopped shut : Bool) (moment : ℕ) → refusal_of_pulse stopped shut moment ≡ None → shut ≡ false
open_if_not_refused stopped shut moment none = by (nat_lt moment_max moment) shut stopped none
  where
    by : (late shut stopped : Bool) → (if late then Some MomentTooLarge else if shut then Some Shutdown
        else if stopped then Some Stopped else None) ≡ None → shut ≡ false
    by true shut stopped none = cc
    by false true stopped none = cc
    by false false stopped none = refl

-- ---- a pulse

pub pulse_restores : (old : EngineState) (moment : ℕ) (new : EngineState) → is_idle old ≡ true
    → old.ledger.places < places_max → has_stopped old ≡ false
    → Queues old (ticket_of old.front.submitters (item.Pulse moment)) new
    → RestoresTicket old (ticket_of old.front.submitters (item.Pulse moment)) new
pulse_restores old moment new idle room on queues =
    let is = idle_is old idle in
    record {
      adds = queues.adds;
      held = ap (λ (front : FrontState). front.held) queues.steps ∙ sealed (old.front.closed || old.front.stopped) is.empty;
      goes = queues.stopped ∙ ap (halts old.ledger) (once (old.front.closed || old.front.stopped) (rw (is.unclosed, is.goes) refl) is.empty)
          ∙ goes_on old.ledger room on;
    }
  where
    sealed : (clear : Bool) → old.front.held ≡ [] → (if clear then take_result old.front []
        else take_result (with_group old.front []) (group_as_batch old.front.held ++ Pulse moment ∷ [])).front.held ≡ []
    sealed true empty = empty
    sealed false empty = refl

    once : (clear : Bool) → clear ≡ false → old.front.held ≡ [] → places_in (if clear then take_result old.front []
        else take_result (with_group old.front []) (group_as_batch old.front.held ++ Pulse moment ∷ [])).parcels ≡ 1
    once true open_yet empty = cc
    once false open_yet empty = ap (λ held. places_in (group_as_batch held ++ Pulse moment ∷ [])) empty
