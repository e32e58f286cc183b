-- What follows of what an engine was handed.
use Rattle.std.proofs.Common.{◌≡◌, refl, sym, ap, ◌∙◌, subst, ℕ, ◌+◌, Bool, List, [], ◌∷◌, ◌++◌, length, get_or, ◌<◌, ◌≤◌, false, arith}
use Rattle.tb_embed.proofs.Words.{slice_set, map-append, items_in, is_end, IsSubmitted, ReplyValue, Item, Ticket, Packet, FrontState, IsFront, take_step, with_group, has_taken, IsWithJournal, BareLedgerState, halts, with_journal, LedgerState, EachPartIsLawful, RunIsLawful, EngineState, Continues, HasPlaces, HasTaken, Serves, Steps, Queues, has_stopped, places_of, ServingIsLawful, AnyEngineState, ServesBy, AreQueued, packets_in, ticket_of, packet_ticket}
use Rattle.tb_embed.proofs.Places.{group_goes, places_before, ticket_goes}
use Rattle.tb_embed.proofs.Queued.{IsNext, control_queued, packet_queued_as}
use Rattle.tb_embed.proofs.AnyRun.{any_serving_is_lawful}

-- what the front and the ledger make of one item more
abbrev pub Takes : EngineState → Item → EngineState → Type 0
Takes old x new =
    (start : LedgerState) (items : List Item) (read : List ReplyValue)
    → HasTaken start items (read ++ old.unread) old.front old.ledger
    → HasTaken start (items ++ x ∷ []) (read ++ new.unread) new.front new.ledger

-- it has stopped after a ticket only if it had before, or there were no places for what the front passed on
abbrev pub Stops : EngineState → Ticket → EngineState → Type 0
Stops old ticket new = has_stopped new ≡ halts old.ledger (places_of old.front ticket)

-- a ticket went through the front and the ledger, which left alone what may be queued
pub record Took (old : EngineState) (ticket : Ticket) (new : EngineState) : Type 0 where
  pub takes : Takes old ticket.item new
  pub steps : Steps old.front ticket new.front
  pub stopped : Stops old ticket new
  pub sound : IsFront old.front
  pub same : (new.numbers ≡ old.numbers) × (new.shut ≡ old.shut) × (new.front.limit ≡ old.front.limit)
      × (new.front.submitters ≡ old.front.submitters)

-- with what its sender may queue next
serves_more : {old new : EngineState} {ticket : Ticket} (numbers : List ℕ) (shut : Bool) → Took old ticket new
    → ticket.sender ≤ old.front.submitters → ((queue : List Ticket)
    → AreQueued old.front.submitters queue old.numbers old.shut
    → AreQueued old.front.submitters (queue ++ ticket ∷ []) numbers shut)
    → Queues old ticket (record new { numbers = numbers; shut = shut })
serves_more {old} {new} {ticket} numbers shut took among more = record {
  adds = λ start queue read serves. record {
    taken = subst (λ (items : List Item). HasTaken start items (read ++ new.unread) new.front new.ledger)
        (sym (map-append (λ (t : Ticket). t.item) queue (ticket ∷ [])))
        (took.takes start (items_in queue) read serves.taken);
    queued = subst (λ n. AreQueued n (queue ++ ticket ∷ []) numbers shut) (sym took.same.3) (more queue serves.queued);
    unstopped = ap (λ (f : FrontState). f.stopped) took.steps
        ∙ (has_taken false old.front ticket (take_step false old.front ticket.sender ticket.item) took.sound among refl).goes_on
        refl serves.unstopped;
    goes = λ places.
        let all = subst (HasPlaces start) (map-append (λ (t : Ticket). t.item) queue (ticket ∷ [])) places in
        took.stopped ∙ ticket_goes ticket took.sound among serves.taken serves.unstopped
        (serves.goes (places_before start (items_in queue) (ticket.item ∷ []) all)) all;
  };
  steps = took.steps;
  stopped = took.stopped;
}

pub packet_serves : {old new : EngineState} (submitter number : ℕ) (packet : Packet) → get_or old.numbers submitter 0 ≡ number
    → Took old (packet_ticket submitter number packet) new → submitter < old.front.submitters
    → old.front.submitters ≤ length old.numbers →
    Queues old (packet_ticket submitter number packet)
    (record new { numbers = slice_set new.numbers submitter (number + 1) })
packet_serves {new} submitter number packet is took among long =
    serves_more (slice_set new.numbers submitter (number + 1)) new.shut took (omega (arith, among))
    (λ queue are. packet_queued_as submitter packet are is took.same.0 took.same.1 among long)

pub control_serves : {old new : EngineState} (item : Item) → Took old (ticket_of old.front.submitters item) new
    → IsSubmitted old.front.submitters old.front.submitters item
    → IsNext old.front.submitters 0 item → 0 + packets_in (item ∷ []) ≡ 0 → old.shut ≡ false →
    Queues old (ticket_of old.front.submitters item) (record new { shut = is_end item })
control_serves {old} {new} item took own next none on =
    let control = old.front.submitters in
    serves_more new.numbers (is_end item) took (omega arith) (λ queue are.
    subst (λ ns. AreQueued control (queue ++ ticket_of control item ∷ []) ns (is_end item)) (sym took.same.0)
    (control_queued control queue old.numbers old.shut are item own next none on))

-- the group held committed
pub group_serves : (old new : EngineState) → ((start : LedgerState) (items : List Item) (read : List ReplyValue)
    → HasTaken start items (read ++ old.unread) old.front old.ledger
    → HasTaken start items (read ++ new.unread) new.front new.ledger) → new.front ≡ with_group old.front []
    → has_stopped new ≡ halts old.ledger (length old.front.held) → new.numbers ≡ old.numbers → new.shut ≡ old.shut
    → Continues old new
group_serves old new takes seals stopped numbers shut = record {
  adds = λ start queue read serves. record {
    taken = takes start (items_in queue) read serves.taken;
    queued = rw (seals, numbers, shut) serves.queued;
    unstopped = ap (λ (f : FrontState). f.stopped) seals ∙ serves.unstopped;
    goes = λ places. stopped ∙ group_goes serves.taken serves.unstopped (serves.goes places) places;
  };
  seals = seals;
  stopped = stopped;
}

-- an engine in memory as one over any ledger, which may be each with a journal that it committed
abbrev as_any : EngineState → AnyEngineState BareLedgerState
as_any engine = record {
  front = engine.front;
  ledger = engine.ledger;
  unread = engine.unread;
  numbers = engine.numbers;
  shut = engine.shut;
}

serves_by : (start : LedgerState) (queue : List Ticket) (read : List ReplyValue) (engine : EngineState)
    → Serves start queue read engine → ServesBy IsWithJournal start queue read (as_any engine)
serves_by start queue read engine serves =
    let has = serves.taken.has_sent in
    record {
      taken = record {
        sent = serves.taken.sent;
        passed = serves.taken.passed;
        has_sent = record {
          ledger = with_journal engine.ledger has.groups;
          now = record { same = refl; committed = has.committed };
          commits = has.commits;
          joined = has.joined;
        };
      };
      queued = serves.queued;
      unstopped = serves.unstopped;
    }

pub serving_is_lawful : EachPartIsLawful → RunIsLawful → ServingIsLawful
serving_is_lawful each_part run start queue read engine serves =
    let any = any_serving_is_lawful each_part run IsWithJournal start queue read (as_any engine)
    (serves_by start queue read engine serves) in
    record {
      ledger = any.ledger;
      own = any.own.same;
      opening = any.opening;
      continues = any.continues;
      replayed = sym (ap (λ (ledger : LedgerState). ledger.state) any.own.same) ∙ any.replayed;
      counted = any.own.committed.counted;
      joined = any.joined;
      committed = any.committed;
      due = any.due;
      replied = any.replied;
      whole = λ on. any.whole;
      goes = λ places.
          let goes = serves.goes places in
          (goes, any.whole (ap (λ (ledger : LedgerState). ledger.stopped) any.own.same ∙ goes));
      report = any.report;
    }
