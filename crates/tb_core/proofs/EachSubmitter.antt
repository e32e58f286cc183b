-- What follows from the headline for each submitter, for the pulses, and for each packet committed.
use Rattle.std.proofs.Common.{refl, sym, ap, subst, ◌∙◌, arith, ◌≡◌, ◌<◌, ◌≤◌, ◌⊎◌, inl, inr, ℕ, zero, suc, ◌+◌, Bool, true, false, true≢false, List, [], ◌∷◌, ◌++◌, length, map, Some}
use Rattle.tb_core.proofs.Words.{◌==◌, slice_get, eq-eqb, cases_order, Events, Input, Packet, Pulse, Numbered, ReplyValue, input_of, ahead, items_in, items_from, AreSubmitted, IsSubmitted, Outcome, Committed, Shutdown, Stopped, Item, Ticket, is_packet_of, packets_of, moments_in, moments_queued, CommittedOfEachSubmitter, PulsesAreTheControls, CommittedAreAnswered, Run, committed_in, ahead_in, IsPrefix, Headline, IsTrueOf}
use Rattle.tb_layout.specs.declared.answer.Answer.{Answer}
use Rattle.tb_work.specs.declared.item.Item.TheVariants as item
use Rattle.tb_core.proofs.HeadlineLemmas.{is-prefix-trans, prefix-filter, jobs-queued}
use Rattle.tb_core.proofs.Packets.{jobs_of, jobs_with, part-cons, part_with, AreFrom, from-numbered}

prefix-cons : {X : Type 0} (x : X) (front all : List X) → IsPrefix front all → IsPrefix (x ∷ front) (x ∷ all)
prefix-cons x front all (rest, is) = (rest, ap (λ l. x ∷ l) is)

-- ---- packets of one submitter

jobs-ahead : (submitter : ℕ) (items : List Item)
    → IsPrefix (packets_of submitter (ahead items)) (map input_of (jobs_of submitter items))
jobs-ahead submitter [] = ([], refl)
jobs-ahead submitter (item.Packet job ∷ items) = by (job.submitter == submitter) refl (jobs-ahead submitter items)
  where
    by : (own : Bool) → (job.submitter == submitter) ≡ own
        → IsPrefix (packets_of submitter (ahead items)) (map input_of (jobs_of submitter items)) →
        IsPrefix (packets_of submitter (ahead (item.Packet job ∷ items)))
        (map input_of (jobs_of submitter (item.Packet job ∷ items)))
    by true is others = rw is (prefix-cons (input_of job) _ _ others)
    by false is others = rw is others
jobs-ahead submitter (item.Pulse moment ∷ items) = jobs-ahead submitter items
jobs-ahead submitter (item.End ∷ items) = jobs-ahead submitter items
jobs-ahead submitter (item.Close ∷ items) = (map input_of (jobs_of submitter items), refl)

pub committed_of_each_submitter : CommittedOfEachSubmitter
committed_of_each_submitter run is submitter below =
    record {
      committed = prefix-filter (is_packet_of submitter) (committed_in run) (ahead_in run) is.committed;
      queued = subst (λ jobs. IsPrefix (packets_of submitter (ahead_in run)) (map input_of jobs))
          (jobs-queued run is.queued submitter below) (jobs-ahead submitter (items_in run.queue));
      all = λ nothing. ap (packets_of submitter) (is.all nothing);
    }

-- ---- pulses

moments-append : (inputs others : List Input) → moments_in (inputs ++ others) ≡ moments_in inputs ++ moments_in others
moments-append [] others = refl
moments-append (Packet submitter number events ∷ inputs) others = moments-append inputs others
moments-append (Pulse moment ∷ inputs) others = ap (λ moments. moment ∷ moments) (moments-append inputs others)

moments-ahead : (items : List Item) → IsPrefix (moments_in (ahead items)) (moments_queued items)
moments-ahead [] = ([], refl)
moments-ahead (item.Packet job ∷ items) = moments-ahead items
moments-ahead (item.Pulse moment ∷ items) = prefix-cons moment _ _ (moments-ahead items)
moments-ahead (item.End ∷ items) = moments-ahead items
moments-ahead (item.Close ∷ items) = (moments_queued items, refl)

-- all pulses are the control's
moments-part : (control : ℕ) (queue : List Ticket) → AreSubmitted control queue
    → moments_queued (items_in queue) ≡ moments_queued (items_from control queue)
moments-part control [] all = refl
moments-part control (ticket ∷ queue) all =
    one (ticket.sender == control) ticket.item refl all.0 (moments-part control queue all.1)
    ∙ ap moments_queued (sym (part-cons control ticket queue))
  where
    one : (own : Bool) (x : Item) → (ticket.sender == control) ≡ own → IsSubmitted control ticket.sender x →
        moments_queued (items_in queue) ≡ moments_queued (items_from control queue) →
        moments_queued (x ∷ items_in queue) ≡ moments_queued (part_with own x (items_from control queue))
    one true (item.Packet job) is own others = others
    one false (item.Packet job) is own others = others
    one true (item.Pulse moment) is own others = ap (λ moments. moment ∷ moments) others
    one false (item.Pulse moment) is own others =
        absurd (true≢false (sym (eq-eqb ticket.sender control own) ∙ is))
    one true item.End is own others = others
    one false item.End is own others = others
    one true item.Close is own others = others
    one false item.Close is own others = others

pub pulses_are_the_controls : PulsesAreTheControls
pulses_are_the_controls run is =
    let own : moments_queued (items_in run.queue) ≡ moments_queued (run.queued run.submitters)
    = moments-part run.submitters run.queue is.queued.submitted
    ∙ ap moments_queued (is.queued.parts run.submitters (omega arith)) in
    is-prefix-trans _ _ _ (
      moments_in is.committed.0,
      sym (moments-append (committed_in run) is.committed.0) ∙ ap moments_in is.committed.1,
    )
    (subst (IsPrefix (moments_in (ahead_in run))) own (moments-ahead (items_in run.queue)))

-- ---- what is at a place

pub at-prefix : {X : Type 0} (front all : List X) (place : ℕ) (x : X) → IsPrefix front all
    → slice_get front place ≡ Some x → slice_get all place ≡ Some x
at-prefix [] all place x is got = cc
at-prefix (y ∷ front) [] place x is got = cc
at-prefix (y ∷ front) (z ∷ all) zero x is got = cc
at-prefix (y ∷ front) (z ∷ all) (suc place) x (rest, is) got = at-prefix front all place x (rest, cc) got

-- a packet of a list of jobs
pub record IsJob (submitter number : ℕ) (events : Events) (jobs : List Numbered) : Type 0 where
  pub index : ℕ
  pub job : Numbered
  pub found : slice_get jobs index ≡ Some job
  pub own : input_of job ≡ Packet submitter number events

later-job : (submitter number : ℕ) (events : Events) (first : Numbered) (jobs : List Numbered)
    → IsJob submitter number events jobs → IsJob submitter number events (first ∷ jobs)
later-job submitter number events first jobs is =
    record { index = suc is.index; job = is.job; found = is.found; own = is.own }

-- a packet ahead of the Close is among those that name its submitter
pub job-ahead : (submitter number : ℕ) (events : Events) (items : List Item) (place : ℕ)
    → slice_get (ahead items) place ≡ Some (Packet submitter number events)
    → IsJob submitter number events (jobs_of submitter items)
job-ahead submitter number events [] place got = cc
job-ahead submitter number events (item.Packet job ∷ items) place got =
    by (job.submitter == submitter) place refl got (λ next. job-ahead submitter number events items next)
  where
    by : (own : Bool) (place : ℕ) → (job.submitter == submitter) ≡ own
        → slice_get (input_of job ∷ ahead items) place ≡ Some (Packet submitter number events) →
        ((next : ℕ) → slice_get (ahead items) next ≡ Some (Packet submitter number events)
        → IsJob submitter number events (jobs_of submitter items))
        → IsJob submitter number events (jobs_with (job.submitter == submitter) job (jobs_of submitter items))
    by true zero is got others = rw is (record { index = 0; job = job; found = refl; own = cc })
    by false zero is got others =
        let same : job.submitter ≡ submitter = cc in
        absurd (true≢false (sym (eq-eqb job.submitter submitter same) ∙ is))
    by true (suc place) is got others = rw is (later-job submitter number events job _ (others place got))
    by false (suc place) is got others = rw is (others place got)
job-ahead submitter number events (item.Pulse moment ∷ items) zero got = cc
job-ahead submitter number events (item.Pulse moment ∷ items) (suc place) got =
    job-ahead submitter number events items place got
job-ahead submitter number events (item.End ∷ items) place got = job-ahead submitter number events items place got
job-ahead submitter number events (item.Close ∷ items) place got = cc

-- all packets name a submitter that exists
pub known-ahead : (submitters : ℕ) (queue : List Ticket) → AreSubmitted submitters queue
    → (place submitter number : ℕ) (events : Events)
    → slice_get (ahead (items_in queue)) place ≡ Some (Packet submitter number events) → submitter < submitters
known-ahead submitters [] all place submitter number events got = cc
known-ahead submitters (ticket ∷ queue) all place submitter number events got =
    one ticket.item place all.0 got (λ next. known-ahead submitters queue all.1 next submitter number events)
  where
    one : (x : Item) (place : ℕ) → IsSubmitted submitters ticket.sender x
        → slice_get (ahead (x ∷ items_in queue)) place ≡ Some (Packet submitter number events) →
        ((next : ℕ) → slice_get (ahead (items_in queue)) next ≡ Some (Packet submitter number events)
        → submitter < submitters) → submitter < submitters
    one (item.Packet job) zero own got others =
        let same : job.submitter ≡ submitter = cc in omega (arith, own.0, own.1, same)
    one (item.Packet job) (suc place) own got others = others place got
    one (item.Pulse moment) zero own got others = cc
    one (item.Pulse moment) (suc place) own got others = others place got
    one item.End place own got others = others place got
    one item.Close place own got others = cc

-- ---- packets of a submitter come in the order of their numbers

pub from-least : (submitter number : ℕ) (jobs : List Numbered) → AreFrom submitter number jobs → (index : ℕ) (job : Numbered)
    → slice_get jobs index ≡ Some job → (job.submitter ≡ submitter) × (number ≤ job.number)
from-least submitter number [] all index job got = cc
from-least submitter number (first ∷ jobs) all zero job got =
    let same : first ≡ job = cc in
    (sym (ap (λ (j : Numbered). j.submitter) same) ∙ all.0, omega (arith, ap (λ (j : Numbered). j.number) same, all.1))
from-least submitter number (first ∷ jobs) all (suc index) job got =
    let rest = from-least submitter (number + 1) jobs all.2 index job got in (rest.0, omega (arith, rest.1))

module _ (submitter : ℕ) where
  rises-ahead : {number number_later : ℕ} {events events_later : Events} (from : ℕ) (items : List Item)
      → AreFrom submitter from (jobs_of submitter items) → (place later : ℕ) → place < later
      → slice_get (ahead items) place ≡ Some (Packet submitter number events)
      → slice_get (ahead items) later ≡ Some (Packet submitter number_later events_later) → number < number_later
  rises-ahead from [] all place later before one other = cc
  rises-ahead {number} {number_later} {events} {events_later} from (item.Packet job ∷ items) all place later before one other =
      by (job.submitter == submitter) place later refl all before one other (λ next from_next place later.
      rises-ahead next items from_next place later)
    where
      by : (own : Bool) (place later : ℕ) → (job.submitter == submitter) ≡ own
          → AreFrom submitter from (jobs_with (job.submitter == submitter) job (jobs_of submitter items)) → place < later
          → slice_get (input_of job ∷ ahead items) place ≡ Some (Packet submitter number events)
          → slice_get (input_of job ∷ ahead items) later ≡ Some (Packet submitter number_later events_later) →
          ((next : ℕ) → AreFrom submitter next (jobs_of submitter items) → (place later : ℕ) → place < later
          → slice_get (ahead items) place ≡ Some (Packet submitter number events)
          → slice_get (ahead items) later ≡ Some (Packet submitter number_later events_later) → number < number_later)
          → number < number_later
      by own place zero is all before one other others = absurd (omega (arith, before))
      by true zero (suc later) is all before one other others =
          let from_here = subst (λ b. AreFrom submitter from (jobs_with b job (jobs_of submitter items))) is all in
          let found = job-ahead submitter number_later events_later items later other in
          let least = from-least submitter (from + 1) (jobs_of submitter items) from_here.2 found.index found.job found.found in
          let number_is : job.number ≡ number = cc in
          let later_is : found.job.number ≡ number_later = cc in
          omega (arith, least.1, from_here.1, number_is, later_is)
      by false zero (suc later) is all before one other others =
          let same : job.submitter ≡ submitter = cc in
          absurd (true≢false (sym (eq-eqb job.submitter submitter same) ∙ is))
      by true (suc place) (suc later) is all before one other others =
          let from_here = subst (λ b. AreFrom submitter from (jobs_with b job (jobs_of submitter items))) is all in
          others (from + 1) from_here.2 place later (omega (arith, before)) one other
      by false (suc place) (suc later) is all before one other others =
          let from_here = subst (λ b. AreFrom submitter from (jobs_with b job (jobs_of submitter items))) is all in
          others from from_here place later (omega (arith, before)) one other
  rises-ahead from (item.Pulse moment ∷ items) all zero later before one other = cc
  rises-ahead from (item.Pulse moment ∷ items) all (suc place) zero before one other = cc
  rises-ahead from (item.Pulse moment ∷ items) all (suc place) (suc later) before one other =
      rises-ahead from items all place later (omega (arith, before)) one other
  rises-ahead from (item.End ∷ items) all place later before one other =
      rises-ahead from items all place later before one other
  rises-ahead from (item.Close ∷ items) all place later before one other = cc

-- a submitter's committed packets, by their places
pub rises : {run : Run} {number number_later : ℕ} {events events_later : Events} → Headline run → (submitter : ℕ)
    → submitter < run.submitters → (place later : ℕ) → place < later
    → slice_get (committed_in run) place ≡ Some (Packet submitter number events)
    → slice_get (committed_in run) later ≡ Some (Packet submitter number_later events_later) → number < number_later
rises {run} is submitter below place later before one other =
    rises-ahead submitter 0 (items_in run.queue)
    (subst (AreFrom submitter 0) (sym (jobs-queued run is.queued submitter below))
    (from-numbered submitter 0 (run.queued submitter) (is.queued.numbered submitter (omega (arith, below)))))
    place later before
    (at-prefix (committed_in run) (ahead_in run) place _ is.committed one)
    (at-prefix (committed_in run) (ahead_in run) later _ is.committed other)

-- ---- replies

-- what a map gives at an index is of an element there
at-map : {X Y : Type 0} (f : X → Y) (xs : List X) (index : ℕ) (y : Y) → slice_get (map f xs) index ≡ Some y
    → (x : X) × (slice_get xs index ≡ Some x) × (f x ≡ y)
at-map f [] index y got = cc
at-map f (x ∷ xs) zero y got = (x, refl, cc)
at-map f (x ∷ xs) (suc index) y got = at-map f xs index y got

-- the reply to a packet ahead of the Close
pub record IsReplied (run : Run) (submitter number : ℕ) (events : Events) : Type 0 where
  pub index : ℕ
  pub reply : ReplyValue
  pub known : submitter < run.submitters
  pub replied : slice_get (run.replies submitter) index ≡ Some reply
  pub own : input_of reply.packet ≡ Packet submitter number events

pub replied-ahead : (run : Run) → Headline run → (place submitter number : ℕ) (events : Events)
    → slice_get (ahead_in run) place ≡ Some (Packet submitter number events) → IsReplied run submitter number events
replied-ahead run is place submitter number events got =
    let known = known-ahead run.submitters run.queue is.queued.submitted place submitter number events got in
    let found = job-ahead submitter number events (items_in run.queue) place got in
    let reply = at-map (λ (reply : ReplyValue). reply.packet) (run.replies submitter) found.index found.job
    (ap (λ jobs. slice_get jobs found.index) (is.replied submitter known ∙ sym (jobs-queued run is.queued submitter known))
    ∙ found.found) in
    record {
      index = found.index;
      reply = reply.0;
      known = known;
      replied = reply.1;
      own = ap input_of reply.2 ∙ found.own;
    }

same-place : {number : ℕ} {events : Events} (run : Run) → Headline run → (submitter : ℕ) → submitter < run.submitters
    → (place other : ℕ) → slice_get (committed_in run) place ≡ Some (Packet submitter number events)
    → slice_get (committed_in run) other ≡ Some (Packet submitter number events) → other ≡ place
same-place run is submitter below place other one two =
    by (cases_order place other)
  where
    by : (place ≡ other) ⊎ ((place < other) ⊎ (other < place)) → other ≡ place
    by (inl same) = sym same
    by (inr (inl before)) =
        absurd (omega (arith, rises is submitter below place other before one two))
    by (inr (inr after)) =
        absurd (omega (arith, rises is submitter below other place after two one))

committed_at : {run : Run} {submitter number : ℕ} {events : Events} → Headline run → (place : ℕ)
    → slice_get (committed_in run) place ≡ Some (Packet submitter number events)
    → (reply : IsReplied run submitter number events) → (outcome : Outcome) → reply.reply.outcome ≡ outcome
    → IsTrueOf run reply.reply.packet outcome →
    (answer : Answer) × (reply.reply.outcome ≡ Committed (length run.before + place) answer)
committed_at {run} {submitter} {number} {events} is place got reply (Committed its answer) says (index, at, there, alone) =
    let other : slice_get (committed_in run) index ≡ Some (Packet submitter number events) =
    there ∙ ap (λ input. Some input) reply.own in
    let same : index ≡ place = same-place run is submitter reply.known place index got other in
    (answer, says ∙ ap (λ p. Committed p answer) (at ∙ ap (λ n. length run.before + n) same))
committed_at is place got reply Stopped says said =
    absurd (said.1 (place, got ∙ ap (λ input. Some input) (sym reply.own)))
committed_at {run} is place got reply Shutdown says said =
    absurd (said (
      place,
      at-prefix (committed_in run) (ahead_in run) place _ is.committed got
          ∙ ap (λ input. Some input) (sym reply.own),
    ))

pub committed_are_answered : CommittedAreAnswered
committed_are_answered run is place submitter number events got =
    let reply = replied-ahead run is place submitter number events
    (at-prefix (committed_in run) (ahead_in run) place _ is.committed got) in
    let says = committed_at is place got reply reply.reply.outcome refl
    (is.answered submitter reply.index reply.reply reply.known reply.replied) in
    record {
      index = reply.index;
      reply = reply.reply;
      answer = says.0;
      known = reply.known;
      replied = reply.replied;
      own = reply.own;
      outcome = says.1;
    }
