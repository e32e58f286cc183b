-- A batch that is committed gives each packet what it gives by itself.
use Rattle.std.proofs.Common.{Bool, refl, sym, ap, subst, ◌∙◌, arith, ◌≡◌, ◌≤◌, ◌<◌, ℕ, ◌+◌, ◌/◌, true, not, List, [], ◌∷◌, map, length, length-append, Some}
use Rattle.tb_core.proofs.Words.{fold, length-map, and_parts, and_from, Events, events_of, chunks, is_last_linked, RiseWithin, clock_max, State, failures_of, answer_of, after_packet, events_in_turn, none_open, cuts, failures_each, JoiningIsInvisible, Failures, Committed, event_size, count_of, count_of_size, Numbered, events_in, ReplyValue, reply_with, count_of_all, can_share, body_of, are_of, all_share, AreAdmitted, first_is, length-chunks, cut_replies_from}
use Rattle.tb_layout.specs.declared.failure.Failure.{Failure}
use Rattle.tb_layout.specs.claim.EventCounts.{is_open}
use Rattle.tb_core.proofs.PacketAnswers.{answers_from}
use Rattle.tb_core.proofs.Bodies.{laid-chunks}

-- what a batch of accounts or transfers gives: the replies, the state and the failures' range
pub record GivesEach (place operation : ℕ) (state : State) (jobs : List Numbered) : Type 0 where
  pub replies : cut_replies_from place 0 (failures_of state (events_of operation (body_of jobs))) jobs
      ≡ answers_from place state jobs
  pub states : after_packet state (events_of operation (body_of jobs))
      ≡ fold after_packet state (map (λ (job : Numbered). events_in job.packet) jobs)
  pub rises : RiseWithin 0 (count_of_all jobs) (failures_of state (events_of operation (body_of jobs)))

-- packets that are answered with these failures
abbrev replied : ℕ → List Numbered → List (List Failure) → List ReplyValue
replied place [] failures = []
replied place (job ∷ jobs) [] = []
replied place (job ∷ jobs) (failures ∷ others) =
    reply_with (Committed place (Failures failures)) job ∷ replied (place + 1) jobs others

-- for an operation whose events have 128 bytes, if packets of a group give what each gives by itself
module _ {Event : Type 0} (is_linked : Event → Bool) (number : ℕ) (f : List ℕ → Event)
    (packet_of : List Event → Events) (law : JoiningIsInvisible packet_of is_linked)
    (size : event_size number ≡ Some 128) (events_is : (bytes : List ℕ)
    → events_of number bytes ≡ packet_of (map f (chunks 128 bytes)))
    (answers : (state : State) (events : List Event)
    → answer_of state (packet_of events) ≡ Failures (failures_of state (packet_of events)))
    (opens : (events : List Event) → is_open (packet_of events) ≡ is_last_linked is_linked events) where
  abbrev own : Numbered → List Event
  own job = map f (chunks 128 job.packet.bytes)

  own_is : (job : Numbered) → job.packet.operation ≡ number → events_in job.packet ≡ packet_of (own job)
  own_is job is = ap (λ op. events_of op job.packet.bytes) is ∙ events_is job.packet.bytes

  count_is : (job : Numbered) → job.packet.operation ≡ number → count_of job.packet ≡ length (own job)
  count_is job is =
      ap (count_of_size job.packet.bytes) (ap event_size is ∙ size)
      ∙ sym (length-map (chunks 128 job.packet.bytes) f
      ∙ length-chunks 128 (length job.packet.bytes / 128) job.packet.bytes)

  body_is : (jobs : List Numbered) → are_of number jobs ≡ true → AreAdmitted jobs
      → events_of number (body_of jobs) ≡ packet_of (events_in_turn (map own jobs))
  body_is jobs one all = events_is (body_of jobs) ∙ ap packet_of (laid-chunks f number jobs size one all)

  count_all : (jobs : List Numbered) → are_of number jobs ≡ true
      → length (events_in_turn (map own jobs)) ≡ count_of_all jobs
  count_all [] one = refl
  count_all (job ∷ jobs) one =
      let first = first_is number job jobs one in
      omega (
        arith,
        length-append (own job) (events_in_turn (map own jobs)),
        count_is job
            first.0,
        count_all jobs first.1,
      )

  -- cut by the packets' counts, or by their events
  replies_cut : (place offset : ℕ) (failures : List Failure) (jobs : List Numbered) → are_of number jobs ≡ true
      → cut_replies_from place offset failures jobs ≡ replied place jobs (cuts offset (map own jobs) failures)
  replies_cut place offset failures [] one = refl
  replies_cut place offset failures (job ∷ jobs) one =
      let first = first_is number job jobs one in rw
      (count_is job first.0, replies_cut (place + 1) (offset + length (own job)) failures jobs first.1) refl

  -- each by itself
  replies_each : (place : ℕ) (state : State) (jobs : List Numbered) → are_of number jobs ≡ true
      → answers_from place state jobs ≡ replied place jobs (failures_each state (map packet_of (map own jobs)))
  replies_each place state [] one = refl
  replies_each place state (job ∷ jobs) one =
      let first = first_is number job jobs one in rw (
        own_is job first.0,
        answers state (own job),
        replies_each (place + 1)
            (after_packet state (packet_of (own job))) jobs first.1,
      ) refl

  states_each : (state : State) (jobs : List Numbered) → are_of number jobs ≡ true
      → fold after_packet state (map packet_of (map own jobs))
      ≡ fold after_packet state (map (λ (job : Numbered). events_in job.packet) jobs)
  states_each state [] one = refl
  states_each state (job ∷ jobs) one =
      let first = first_is number job jobs one in rw (own_is job first.0)
      (states_each (after_packet state (packet_of (own job))) jobs first.1)

  -- ---- packets of one batch

  closed_all : (jobs : List Numbered) → are_of number jobs ≡ true → all_share jobs ≡ true
      → none_open is_linked (map own jobs) ≡ true
  closed_all [] one share = refl
  closed_all (job ∷ jobs) one share =
      let first = first_is number job jobs one in
      let both = and_parts (can_share (events_in job.packet)) (all_share jobs) share in
      let closed = (and_parts (not (is_open (events_in job.packet))) _ both.0).0 in
      let closed_own = sym (ap is_open (own_is job first.0) ∙ opens (own job)) in
      and_from _ _ (ap not closed_own ∙ closed) (closed_all jobs first.1 both.1)

  pub gives : (place : ℕ) (state : State) (jobs : List Numbered) → state.clock ≤ clock_max
      → are_of number jobs ≡ true → AreAdmitted jobs → (1 < length jobs → all_share jobs ≡ true)
      → GivesEach place number state jobs
  gives place state jobs in_range one all share =
      let joined = law state (map own jobs) in_range
      (λ more. closed_all jobs one (share (omega (arith, more, length-map jobs own)))) in
      let body = body_is jobs one all in
      record {
        replies = ap (λ events. cut_replies_from place 0 (failures_of state events) jobs) body
            ∙ replies_cut place 0 (failures_of state (packet_of (events_in_turn (map own jobs)))) jobs one
            ∙ ap (replied place jobs) joined.failures ∙ sym (replies_each place state jobs one);
        states = ap (after_packet state) body ∙ joined.state_after ∙ states_each state jobs one;
        rises = subst (RiseWithin 0 (count_of_all jobs)) (sym (ap (failures_of state) body))
            (subst (λ high. RiseWithin 0 high (failures_of state (packet_of (events_in_turn (map own jobs)))))
            (count_all jobs one) joined.rise);
      }
