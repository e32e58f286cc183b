-- What follows of what an engine over any ledger was handed.
use Rattle.std.proofs.Common.{◌≡◌, ◌≤◌, ◌<◌, ◌+◌, refl, sym, ap, ◌∙◌, subst, arith, ℕ, Bool, false, if◌then◌else◌, List, [], ◌∷◌, ◌++◌, length, map, append-nil, get_or, replicate}
use Rattle.tb_embed.proofs.Words.{senders_max, submitters_max, slice_set, map-append, items_in, ReplyValue, is_end, IsSubmitted, Item, Ticket, Packet, Applying, IsApplied, Parcel, FrontState, IsFront, all_decisions_in, decisions_in, held_by, take_step, AreJoined, AreJoinedParcels, Decision, Admitted, AreDecisions, LedgerState, groups_since, Commits, EachPartIsLawful, RunIsLawful, replies_in, has_taken, Steps, ended_run, AnyEngineState, AnyServingIsLawful, HasSentBy, HasTakenBy, IsOpenedBy, QueuesBy, AreQueued, packets_in, packet_ticket, ticket_of}
use Rattle.tb_core.specs.declared.outcomes.Outcomes.{Outcomes}
use Rattle.tb_embed.proofs.Queued.{IsNext, control_queued, packet_queued_as, passes_ended, queue_ended}
use Rattle.tb_embed.proofs.Opened.{none_queued}

-- one parcel applied
pub parcel_sent : {start : LedgerState} {limit : ℕ} {sent : List Decision} {replies : List ReplyValue}
    (was is : LedgerState → Type 0) (handed : Parcel) (given : Outcomes) → Applying was handed given is → AreJoinedParcels limit (handed ∷ [])
    → HasSentBy was start limit sent replies
    → HasSentBy is start limit (sent ++ all_decisions_in (handed ∷ [])) (replies ++ replies_in given)
parcel_sent {start} {limit} {sent} {replies} was is handed given applying joined has =
    let step : (next : LedgerState) × is next × IsApplied has.ledger handed given next = applying has.ledger has.now in
    record {
      ledger = step.0;
      now = step.1;
      commits = subst (λ ds. Commits start (sent ++ ds) step.0 (replies ++ replies_in given))
          (sym (append-nil (decisions_in handed))) (step.2.commits start sent replies has.commits);
      joined = step.2.joined start limit has.commits.continues joined.0 has.joined;
    }

-- an engine in which nothing was queued
pub opened_by : {L : Type 0} {ledger : L} {limit submitters : ℕ} {engine : AnyEngineState L} (is : L → LedgerState → Type 0)
    (front : FrontState) → engine ≡ record { front = front; ledger = ledger; unread = []; numbers = replicate submitters_max 0; shut = false }
    → front ≡ record {
      limit = limit;
      submitters = submitters;
      held = [];
      closed = false;
      stopped = false;
      ended = replicate senders_max false;
    } → AreDecisions [] front.closed front.stopped (held_by front)
    → ((start : LedgerState) → is ledger start → start.stopped ≡ false → Commits start [] start [])
    → ((start : LedgerState) (limit : ℕ) → AreJoined limit (groups_since start start))
    → IsOpenedBy is ledger limit submitters engine
opened_by is front engine_is front_is passes begins joined =
    rw engine_is (record {
      serves = λ start now goes. record {
        taken = record {
          sent = [];
          passed = passes;
          has_sent = record {
            ledger = start;
            now = now;
            commits = begins start now goes;
            joined = joined start front.limit;
          };
        };
        queued = none_queued front.submitters;
        unstopped = ap (λ (f : FrontState). f.stopped) front_is;
      };
      own = refl;
      limited = ap (λ (f : FrontState). f.limit) front_is;
      counted = ap (λ (f : FrontState). f.submitters) front_is;
      nothing = (ap (λ (f : FrontState). f.held) front_is, refl);
      numbers = refl;
      unclosed = ap (λ (f : FrontState). f.closed) front_is;
      goes = ap (λ (f : FrontState). f.stopped) front_is;
      unshut = refl;
    })

module _ {L : Type 0} (is : L → LedgerState → Type 0) (old new : AnyEngineState L) where
  -- what the front and the ledger make of one item more
  abbrev pub TakesBy : Item → Type 0
  TakesBy x =
      (start : LedgerState) (items : List Item) (read : List ReplyValue)
      → HasTakenBy (is old.ledger) start items (read ++ old.unread) old.front
      → HasTakenBy (is new.ledger) start (items ++ x ∷ []) (read ++ new.unread) new.front

  -- a ticket went through both, which left alone what may be queued
  pub record TookBy (ticket : Ticket) : Type 0 where
    pub takes : TakesBy ticket.item
    pub steps : Steps old.front ticket new.front
    pub sound : IsFront old.front
    pub same : (new.numbers ≡ old.numbers) × (new.shut ≡ old.shut) × (new.front.limit ≡ old.front.limit)
        × (new.front.submitters ≡ old.front.submitters)

  -- with what its sender may queue next
  more_by : {ticket : Ticket} (numbers : List ℕ) (shut : Bool) → TookBy ticket → ticket.sender ≤ old.front.submitters
      → ((queue : List Ticket) → AreQueued old.front.submitters queue old.numbers old.shut
      → AreQueued old.front.submitters (queue ++ ticket ∷ []) numbers shut)
      → QueuesBy is old ticket (record new { numbers = numbers; shut = shut })
  more_by {ticket} numbers shut took among more = record {
    adds = λ start queue read serves. record {
      taken = subst (λ (items : List Item). HasTakenBy (is new.ledger) start items (read ++ new.unread) new.front)
          (sym (map-append (λ (t : Ticket). t.item) queue (ticket ∷ [])))
          (took.takes start (items_in queue) read serves.taken);
      queued = subst (λ n. AreQueued n (queue ++ ticket ∷ []) numbers shut) (sym took.same.3) (more queue serves.queued);
      unstopped = ap (λ (f : FrontState). f.stopped) took.steps
          ∙ (has_taken false old.front ticket (take_step false old.front ticket.sender ticket.item) took.sound among refl).goes_on
          refl serves.unstopped;
    };
    steps = took.steps;
  }

  pub packet_by : (submitter number : ℕ) (packet : Packet) → get_or old.numbers submitter 0 ≡ number
      → TookBy (packet_ticket submitter number packet) → submitter < old.front.submitters
      → old.front.submitters ≤ length old.numbers →
      QueuesBy is old (packet_ticket submitter number packet)
      (record new { numbers = slice_set new.numbers submitter (number + 1) })
  packet_by submitter number packet is_number took among long =
      more_by (slice_set new.numbers submitter (number + 1)) new.shut took (omega (arith, among))
      (λ queue are. packet_queued_as submitter packet are is_number took.same.0 took.same.1 among long)

  pub control_by : (item : Item) → TookBy (ticket_of old.front.submitters item)
      → IsSubmitted old.front.submitters old.front.submitters item
      → IsNext old.front.submitters 0 item → 0 + packets_in (item ∷ []) ≡ 0 → old.shut ≡ false →
      QueuesBy is old (ticket_of old.front.submitters item) (record new { shut = is_end item })
  control_by item took own next none on =
      let control = old.front.submitters in
      more_by new.numbers (is_end item) took (omega arith) (λ queue are.
      subst (λ ns. AreQueued control (queue ++ ticket_of control item ∷ []) ns (is_end item)) (sym took.same.0)
      (control_queued control queue old.numbers old.shut are item own next none on))

pub any_serving_is_lawful : EachPartIsLawful → RunIsLawful → {L : Type 0} (is : L → LedgerState → Type 0)
    → AnyServingIsLawful is
any_serving_is_lawful each_part run is start queue read engine serves =
    let front = engine.front in
    let taken = serves.taken in
    let ledger = taken.has_sent.ledger in
    let commits = taken.has_sent.commits in
    let far = each_part start (items_in queue) front.closed front.stopped taken.sent (held_by front) ledger
    (read ++ engine.unread) taken.passed commits in
    record {
      ledger = ledger;
      own = taken.has_sent.now;
      opening = commits.from;
      continues = commits.continues;
      replayed = commits.state;
      joined = taken.has_sent.joined;
      committed = far.committed;
      due = far.due;
      replied = λ none. far.replied (ap (map Admitted) none);
      whole = far.whole serves.unstopped;
      report = λ none done. run (ended_run start queue read front engine.shut ledger) start read
          (queue_ended front.submitters queue engine.numbers engine.shut serves.queued) refl
          (record {
            closed = front.closed;
            stopped = front.stopped;
            decisions = taken.sent;
            passed = passes_ended (if engine.shut then front.submitters else front.submitters + 1) queue front.closed front.stopped taken.sent
                (subst (AreDecisions (items_in queue) front.closed front.stopped)
                (ap (λ jobs. taken.sent ++ map Admitted jobs) none ∙ append-nil taken.sent) taken.passed);
            commits = subst (Commits start taken.sent ledger) (ap (λ replies. read ++ replies) done ∙ append-nil read) commits;
          })
          (λ submitter below. refl);
    }
