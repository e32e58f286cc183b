-- Which runs the headline excludes, and two that it doesn't.
use Rattle.std.proofs.Common.{refl, sym, ap, subst, ◌∙◌, arith, ◌≡◌, ◌<◌, ◌≤◌, ℕ, zero, suc, true≢false, List, [], ◌∷◌, ◌++◌, drop, length, append-nil, map, Some}
use Rattle.tb_core.proofs.Words.{slice_get, ne_eqb, Input, Packet, Pulse, items_in, items_from, AreNumbered, IsEnded, Numbered, ReplyValue, input_of, Outcome, Committed, Shutdown, Stopped, moments_in, due, Run, committed_in, ahead_in, IsPrefix, inputs, replay, Headline, IsTrueOf, packets_queued}
use Rattle.tb_work.specs.declared.item.Item.TheVariants as item
use Rattle.tb_work.specs.declared.packet.Packet as packet
use Rattle.tb_core.specs.clauses.BadRuns.{IsReplyTo, Excludes, CommitsAStranger, ShutsDownACommitted, StopsACommitted, StopsBehindTheClose, DropsPulses, ChangesPlaces, ForgetsTheState, LosesTheJournal, CountsPlacesAnew, CommitsNothing, CommitsNothingRunning, CommitsNothingStopped, InventsAPacket, InventsAPulse, Overtakes, GivesAnothersReply, AnswersAnotherwise, LosesAnItem, stopped_at_once, MayStopAtOnce, closed_first, MayPopTheCloseFirst}
use Rattle.tb_core.proofs.EachSubmitter.{at-prefix, known-ahead, job-ahead, from-least, rises, replied-ahead, pulses_are_the_controls}
use Rattle.tb_core.proofs.HeadlineLemmas.{all-replied, all-true, jobs-queued}
use Rattle.tb_core.proofs.Packets.{from-numbered}
use Rattle.tb_core.proofs.Since.{drop-whole}

-- what a reply says of its packet
says : (run : Run) → Headline run → (submitter : ℕ) (reply : ReplyValue) → IsReplyTo run submitter reply
    → (outcome : Outcome) → reply.outcome ≡ outcome → IsTrueOf run reply.packet outcome
says run is submitter reply its outcome same =
    subst (IsTrueOf run reply.packet) same (is.answered submitter its.1.0 reply its.0 its.1.1)

-- what is committed is ahead of the Close at the same place
is_ahead : (run : Run) → Headline run → (place : ℕ) (input : Input) → slice_get (committed_in run) place ≡ Some input
    → slice_get (ahead_in run) place ≡ Some input
is_ahead run is place input got = at-prefix (committed_in run) (ahead_in run) place input is.committed got

pub commits_a_stranger : Excludes CommitsAStranger
commits_a_stranger run is (submitter, number, events, unknown, (place, got)) =
    let known = known-ahead run.submitters run.queue is.queued.submitted place submitter number events
    (is_ahead run is place _ got) in
    omega (arith, known, unknown)

pub shuts_down_a_committed : Excludes ShutsDownACommitted
shuts_down_a_committed run is (submitter, reply, its, outcome, (place, got)) =
    says run is submitter reply its Shutdown outcome (place, is_ahead run is place _ got)

pub stops_a_committed : Excludes StopsACommitted
stops_a_committed run is (submitter, reply, its, outcome, (place, got)) =
    (says run is submitter reply its Stopped outcome).1 (place, got)

pub stops_behind_the_close : Excludes StopsBehindTheClose
stops_behind_the_close run is (submitter, reply, its, outcome, behind) =
    behind (says run is submitter reply its Stopped outcome).0

pub drops_pulses : Excludes DropsPulses
drops_pulses run is (nothing, lacks) = lacks (ap moments_in (is.all nothing))

pub changes_places : Excludes ChangesPlaces
changes_places run is (place, one, other, committed, ahead, apart) =
    let both : Some one ≡ Some other = sym (is_ahead run is place one committed) ∙ ahead in apart cc

pub forgets_the_state : Excludes ForgetsTheState
forgets_the_state run is apart = apart is.state

pub loses_the_journal : Excludes LosesTheJournal
loses_the_journal run is lost = lost is.continues

pub counts_places_anew : Excludes CountsPlacesAnew
counts_places_anew run is (submitter, place, reply, answer, its, outcome, early) =
    let said = says run is submitter reply its (Committed place answer) outcome in omega (arith, said.1, early)

-- a packet ahead of the Close isn't answered Shutdown
commits_nothing : (run : Run) → Headline run → CommitsNothing run → ⊥
commits_nothing run is bad =
    let reply = replied-ahead run is bad.ahead.0 bad.submitter bad.number bad.events bad.ahead.1 in
    let its : IsReplyTo run bad.submitter reply.reply = (reply.known, (reply.index, reply.replied)) in
    says run is bad.submitter reply.reply its Shutdown (bad.shut bad.submitter reply.reply its)
    (bad.ahead.0, bad.ahead.1 ∙ ap (λ input. Some input) (sym reply.own))

pub commits_nothing_running : Excludes CommitsNothingRunning
commits_nothing_running run is (bad, running) = commits_nothing run is bad

pub commits_nothing_stopped : Excludes CommitsNothingStopped
commits_nothing_stopped run is (bad, stopped) = commits_nothing run is bad

get-map : {X Y : Type 0} (f : X → Y) (xs : List X) (index : ℕ) (x : X) → slice_get xs index ≡ Some x
    → slice_get (map f xs) index ≡ Some (f x)
get-map f [] index x got = cc
get-map f (y ∷ xs) zero x got = cc
get-map f (y ∷ xs) (suc index) x got = get-map f xs index x got

pub invents_a_packet : Excludes InventsAPacket
invents_a_packet run is (submitter, number, events, known, (place, got), absent) =
    let found = job-ahead submitter number events (items_in run.queue) place (is_ahead run is place _ got) in
    let queued = ap (λ jobs. slice_get jobs found.index) (sym (jobs-queued run is.queued submitter known)) ∙ found.found in
    absent (
      found.index,
      get-map input_of (packets_queued (run.queued submitter)) found.index found.job queued
          ∙ ap (λ input. Some input) found.own,
    )

moment-at : (inputs : List Input) (place moment : ℕ) → slice_get inputs place ≡ Some (Pulse moment)
    → (index : ℕ) × (slice_get (moments_in inputs) index ≡ Some moment)
moment-at [] place moment got = cc
moment-at (Packet submitter number events ∷ inputs) zero moment got = cc
moment-at (Packet submitter number events ∷ inputs) (suc place) moment got = moment-at inputs place moment got
moment-at (Pulse first ∷ inputs) zero moment got = (0, cc)
moment-at (Pulse first ∷ inputs) (suc place) moment got =
    let found = moment-at inputs place moment got in (suc found.0, found.1)

pub invents_a_pulse : Excludes InventsAPulse
invents_a_pulse run is (moment, (place, got), absent) =
    let found = moment-at (committed_in run) place moment got in
    absent (found.0, at-prefix _ _ found.0 moment (pulses_are_the_controls run is) found.1)

pub overtakes : Excludes Overtakes
overtakes run is bad =
    omega (arith, rises is bad.submitter bad.known bad.place bad.later bad.before bad.one bad.other, bad.overtaken)

pub gives_anothers_reply : Excludes GivesAnothersReply
gives_anothers_reply run is (submitter, reply, (known, (index, replied)), apart) =
    let queued : slice_get (packets_queued (run.queued submitter)) index ≡ Some reply.packet =
    ap (λ jobs. slice_get jobs index) (sym (is.replied submitter known))
    ∙ get-map (λ (reply : ReplyValue). reply.packet) (run.replies submitter) index reply replied in
    apart (from-least submitter 0 (packets_queued (run.queued submitter))
    (from-numbered submitter 0 (run.queued submitter) (is.queued.numbered submitter (omega (arith, known)))) index
    reply.packet queued).0

pub answers_anotherwise : Excludes AnswersAnotherwise
answers_anotherwise run is (submitter, place, reply, answer, its, outcome, apart) =
    apart (says run is submitter reply its (Committed place answer) outcome).3

pub loses_an_item : Excludes LosesAnItem
loses_an_item run is (sender, one, known, (index, got), absent) =
    absent (index, ap (λ items. slice_get items index) (is.queued.parts sender known) ∙ got)

-- ---- what it doesn't exclude

pub may_stop_at_once : MayStopAtOnce
may_stop_at_once run is =
    let stopped = stopped_at_once run in
    let same : inputs stopped.ledger ≡ run.before = append-nil run.before in
    let none : committed_in stopped ≡ [] = ap (drop (length run.before)) same ∙ drop-whole run.before in
    let committed : IsPrefix (committed_in stopped) (ahead_in run) =
    (ahead_in run, ap (λ ws. ws ++ ahead_in run) none) in
    let due = λ (submitter : ℕ) (below : submitter < run.submitters).
    ap (λ journal. due run.ledger.opening (length run.before) run.queue journal submitter) (sym same) in
    record {
      queued = is.queued;
      continues = ([], append-nil run.before ∙ sym same);
      committed = committed;
      all = λ nothing. absurd (true≢false nothing.ledger);
      replied = all-replied stopped is.queued due;
      answered = all-true stopped is.queued committed due;
      state = ap (replay run.ledger.opening) (sym same);
    }

closed-parts : (packet : packet.Packet) (sender : ℕ) → sender ≤ 1
    → items_from sender (closed_first packet).queue ≡ (closed_first packet).queued sender
closed-parts packet zero within = refl
closed-parts packet (suc zero) within = refl
closed-parts packet (suc (suc sender)) within = absurd (omega (arith, within))

closed-alone : (packet : packet.Packet) (sender : ℕ) → 1 < sender → items_from sender (closed_first packet).queue ≡ []
closed-alone packet sender above =
    rw (ne_eqb 1 sender (λ same. absurd (omega (arith, same, above)))) (
    rw (ne_eqb 0 sender (λ same. absurd (omega (arith, same, above)))) refl
    )

closed-numbered : (packet : packet.Packet) (sender : ℕ) → sender ≤ 1
    → AreNumbered sender 0 ((closed_first packet).queued sender)
closed-numbered packet zero within = (refl, refl, tt)
closed-numbered packet (suc zero) within = tt
closed-numbered packet (suc (suc sender)) within = absurd (omega (arith, within))

closed-ended : (packet : packet.Packet) (sender : ℕ) → sender ≤ 1 → IsEnded ((closed_first packet).queued sender)
closed-ended packet zero within =
    let job : Numbered = record { submitter = 0; number = 0; packet = packet } in
    record { body = item.Packet job ∷ []; last = item.End; parts = refl; unended = refl; ends = refl }
closed-ended packet (suc zero) within =
    record { body = []; last = item.Close; parts = refl; unended = refl; ends = refl }
closed-ended packet (suc (suc sender)) within = absurd (omega (arith, within))

closed-replied : (packet : packet.Packet) (submitter : ℕ) → submitter < 1
    → map (λ (reply : ReplyValue). reply.packet) ((closed_first packet).replies submitter)
    ≡ packets_queued ((closed_first packet).queued submitter)
closed-replied packet zero below = refl
closed-replied packet (suc submitter) below = absurd (omega (arith, below))

closed-answered : (packet : packet.Packet) (submitter index : ℕ) (reply : ReplyValue) → submitter < 1
    → slice_get ((closed_first packet).replies submitter) index ≡ Some reply
    → IsTrueOf (closed_first packet) reply.packet reply.outcome
closed-answered packet zero zero reply below got =
    let same : reply.outcome ≡ Shutdown = cc in
    subst (IsTrueOf (closed_first packet) reply.packet) (sym same) (λ found. cc)
closed-answered packet zero (suc index) reply below got = cc
closed-answered packet (suc submitter) index reply below got = absurd (omega (arith, below))

pub may_pop_the_close_first : MayPopTheCloseFirst
may_pop_the_close_first packet =
    record {
      queued = record {
        parts = closed-parts packet;
        no_other_sender = closed-alone packet;
        submitted = (refl, ((refl, omega arith), (tt, tt)));
        numbered = closed-numbered packet;
        ended = closed-ended packet;
      };
      continues = ([], refl);
      committed = ([], refl);
      all = λ nothing. refl;
      replied = closed-replied packet;
      answered = closed-answered packet;
      state = refl;
    }
