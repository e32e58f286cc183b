-- A lawful report has all that the headline says.
use Rattle.std.proofs.Common.{refl, sym, ap, subst, ◌∙◌, arith, ◌≡◌, ◌<◌, ℕ, zero, suc, ◌+◌, Bool, true, false, true≢false, List, [], ◌∷◌, ◌++◌, map, take, length, length-append, append_assoc, append-nil, Option, Some, None}
use Rattle.tb_core.proofs.Words.{◌==◌, ◌≢◌, filter, slice_get, AllByRecursion, eq-eqb, filter-append, Input, Packet, Pulse, replay, Numbered, events_in, ReplyValue, input_of, ahead, items_in, IsQueueOf, Outcome, Item, outcome_at, outcome_with, all_due_from, due, replies_to, Place, Ahead, Behind, next_place, IsTrueOf, packets_queued, Run, committed_in, ahead_in, IsPrefix, inputs}
use Rattle.tb_machine.specs.claim.AnswerAt.{answer_to}
use Rattle.tb_work.specs.declared.item.Item.TheVariants as item
use Rattle.tb_core.specs.claim.Report.{ReportsHeadline}
use Rattle.tb_core.proofs.Since.{get-drop}
use Rattle.tb_core.proofs.Packets.{jobs_of, jobs_with, jobs-part, AreFrom, from-numbered, IsBelow, AreBelow, nowhere-below, below-longer, below-append, all-shorter}

-- ---- prefixes

pub is-prefix-trans : {X : Type 0} (xs ys zs : List X) → IsPrefix xs ys → IsPrefix ys zs → IsPrefix xs zs
is-prefix-trans xs ys zs (a, is) (b, more) = (a ++ b, sym (append_assoc xs a b) ∙ ap (λ l. l ++ b) is ∙ more)

pub prefix-filter : {X : Type 0} (p : X → Bool) (front all : List X) → IsPrefix front all
    → IsPrefix (filter p front) (filter p all)
prefix-filter p front all (rest, is) = (filter p rest, sym (filter-append p front rest) ∙ ap (filter p) is)

-- what is at the end of a list, and at the same place of its prefix
at_place : {X : Type 0} (inputs rest before : List X) (x y : X) (others : List X)
    → inputs ++ rest ≡ before ++ x ∷ others → slice_get inputs (length before) ≡ Some y → y ≡ x
at_place [] rest before x y others is got = cc
at_place (w ∷ inputs) rest [] x y others is got = cc
at_place (w ∷ inputs) rest (b ∷ before) x y others is got = at_place inputs rest before x y others (cc) got

at-end : {X : Type 0} (before : List X) (x : X) (others : List X)
    → slice_get (before ++ x ∷ others) (length before) ≡ Some x
at-end [] x others = refl
at-end (b ∷ before) x others = at-end before x others

-- ---- one reply for each packet of a submitter, in order

pub one-each : (clock submitter : ℕ) (inputs : List Input) (place : Place) (items : List Item) →
    map (λ (reply : ReplyValue). reply.packet) (replies_to (all_due_from clock inputs place items) submitter)
    ≡ jobs_of submitter items
one-each clock submitter inputs place [] = refl
one-each clock submitter inputs place (item.Packet job ∷ items) =
    let others = one-each clock submitter inputs (next_place place (item.Packet job)) items in
    by (job.submitter == submitter) refl others
  where
    by : (own : Bool) → (job.submitter == submitter) ≡ own →
        map (λ (reply : ReplyValue). reply.packet)
        (replies_to (all_due_from clock inputs (next_place place (item.Packet job)) items) submitter)
        ≡ jobs_of submitter items →
        map (λ (reply : ReplyValue). reply.packet)
        (replies_to (all_due_from clock inputs place (item.Packet job ∷ items)) submitter)
        ≡ jobs_of submitter (item.Packet job ∷ items)
    by true is others = rw is (ap (λ jobs. job ∷ jobs) others)
    by false is others = rw is others
one-each clock submitter inputs place (item.Pulse moment ∷ items) =
    one-each clock submitter inputs (next_place place (item.Pulse moment)) items
one-each clock submitter inputs place (item.End ∷ items) =
    one-each clock submitter inputs (next_place place item.End) items
one-each clock submitter inputs place (item.Close ∷ items) =
    one-each clock submitter inputs (next_place place item.Close) items

-- ---- each reply that is due says what is true

module _ (run : Run) (submitter : ℕ) (committed : IsPrefix (committed_in run) (ahead_in run)) where
  abbrev IsTrueReply : ReplyValue → Type 0
  IsTrueReply reply = IsTrueOf run reply.packet reply.outcome

  abbrev due_from : Place → List Item → List ReplyValue
  due_from place items = replies_to (all_due_from run.ledger.opening (inputs run.ledger) place items) submitter

  -- what the run committed is in the journal after what was before it
  in-journal : (index : ℕ) → slice_get (committed_in run) index
      ≡ slice_get (inputs run.ledger) (length run.before + index)
  in-journal index = get-drop (length run.before) index (inputs run.ledger)

  -- behind the Close, if what is ahead of it has lower numbers
  true-behind : (number : ℕ) (items : List Item) → AreBelow submitter number (ahead_in run)
      → AreFrom submitter number (jobs_of submitter items) → AllByRecursion IsTrueReply (due_from Behind items)
  true-behind number [] below from = tt
  true-behind number (item.Packet job ∷ items) below from =
      by (job.submitter == submitter) refl from (λ next later. true-behind next items later)
    where
      by : (own : Bool) → (job.submitter == submitter) ≡ own
          → AreFrom submitter number (jobs_with own job (jobs_of submitter items)) →
          ((next : ℕ) → AreBelow submitter next (ahead_in run) → AreFrom submitter next (jobs_of submitter items)
          → AllByRecursion IsTrueReply (due_from Behind items))
          → AllByRecursion IsTrueReply (due_from Behind (item.Packet job ∷ items))
      by true is (own, first, from) others = rw is (
        λ found. subst (λ s. slice_get (ahead_in run) found.0 ≢ Some (Packet s job.number (events_in job.packet))) (sym own)
            (nowhere-below submitter number (ahead_in run) found.0 job.number (events_in job.packet) below
            (omega (arith, first))) found.1,
        others (number + 1) (below-longer submitter number (number + 1) (ahead_in run) (omega arith) below) from,
      )
      by false is from others = rw is (others number below from)
  true-behind number (item.Pulse moment ∷ items) below from = true-behind number items below from
  true-behind number (item.End ∷ items) below from = true-behind number items below from
  true-behind number (item.Close ∷ items) below from = true-behind number items below from

  -- a packet ahead of the Close has the answer at its place, or isn't committed
  own-answer : {place number : ℕ} (before : List Input) (job : Numbered) (others : List Input)
      → before ++ input_of job ∷ others ≡ ahead_in run → place ≡ length run.before + length before → AreBelow submitter number before
      → job.submitter ≡ submitter → job.number ≡ number →
      IsTrueOf run job (outcome_at run.ledger.opening (inputs run.ledger) (Ahead place))
  own-answer {place} {number} before job others is at below own numbered = by (slice_get (inputs run.ledger) place) refl
    where
      outcome_of_found : Option Input → Outcome
      outcome_of_found found =
          outcome_with place (answer_to (replay run.ledger.opening (take place (inputs run.ledger))) found)

      here : slice_get (committed_in run) (length before) ≡ slice_get (inputs run.ledger) place
      here = in-journal (length before) ∙ ap (slice_get (inputs run.ledger)) (sym at)

      by : (found : Option Input) → slice_get (inputs run.ledger) place ≡ found
          → IsTrueOf run job (outcome_at run.ledger.opening (inputs run.ledger) (Ahead place))
      by None nowhere =
          subst (IsTrueOf run job) (sym (ap outcome_of_found nowhere)) (
            (
              length before,
              subst (λ (inputs : List Input). slice_get inputs (length before) ≡ Some (input_of job)) is
                  (at-end before (input_of job) others),
            ),
            λ found. subst (λ s. slice_get (committed_in run) found.0 ≢ Some (Packet s job.number (events_in job.packet)))
                (sym own)
                (nowhere-below submitter number (committed_in run) found.0 job.number (events_in job.packet)
                (all-shorter (IsBelow submitter number) (committed_in run) committed.0 before (input_of job ∷ others)
                (committed.1 ∙ sym is) (here ∙ nowhere) below)
                (omega (arith, numbered))) found.1,
          )
      by (Some input) found =
          let same : input ≡ input_of job = at_place (committed_in run) committed.0 before (input_of job) input others
          (committed.1 ∙ sym is) (here ∙ found) in
          let stands : slice_get (inputs run.ledger) place ≡ Some (input_of job) = found ∙ ap (λ w. Some w) same in
          subst (IsTrueOf run job) (sym (ap outcome_of_found stands)) (length before, at, here ∙ stands, refl)

  -- ahead of the Close, if what precedes it has lower numbers
  true-ahead : (k number : ℕ) (before : List Input) (items : List Item) → k ≡ length run.before + length before
      → before ++ ahead items ≡ ahead_in run → AreBelow submitter number before
      → AreFrom submitter number (jobs_of submitter items) → AllByRecursion IsTrueReply (due_from (Ahead k) items)
  true-ahead k number before [] at is below from = tt
  true-ahead k number before (item.Packet job ∷ items) at is below from =
      by (job.submitter == submitter) refl from (λ next.
      true-ahead (k + 1) next (before ++ input_of job ∷ []) items
      (omega (arith, at, length-append before (input_of job ∷ [])))
      (append_assoc before (input_of job ∷ []) (ahead items) ∙ is))
    where
      by : (own : Bool) → (job.submitter == submitter) ≡ own
          → AreFrom submitter number (jobs_with own job (jobs_of submitter items)) →
          ((next : ℕ) → AreBelow submitter next (before ++ input_of job ∷ [])
          → AreFrom submitter next (jobs_of submitter items)
          → AllByRecursion IsTrueReply (due_from (Ahead (k + 1)) items))
          → AllByRecursion IsTrueReply (due_from (Ahead k) (item.Packet job ∷ items))
      by true is_own (own, first, from) others = rw is_own (
        own-answer before job (ahead items) is at below own first,
        others (number + 1) (below-append submitter (number + 1) before (input_of job)
            (below-longer submitter number (number + 1) before (omega arith) below) (λ same. omega (arith, first))) from,
      )
      by false is_own from others = rw is_own (
          others number (below-append submitter number before (input_of job) below
          (λ same. absurd (true≢false (sym (eq-eqb job.submitter submitter same) ∙ is_own)))) from
          )
  true-ahead k number before (item.Pulse moment ∷ items) at is below from =
      true-ahead (k + 1) number (before ++ Pulse moment ∷ []) items
      (omega (arith, at, length-append before (Pulse moment ∷ [])))
      (append_assoc before (Pulse moment ∷ []) (ahead items) ∙ is)
      (below-append submitter number before (Pulse moment) below tt) from
  true-ahead k number before (item.End ∷ items) at is below from = true-ahead k number before items at is below from
  true-ahead k number before (item.Close ∷ items) at is below from =
      true-behind number items (subst (AreBelow submitter number) (sym (append-nil before) ∙ is) below) from

at-index : (run : Run) (replies : List ReplyValue) (index : ℕ) (reply : ReplyValue)
    → AllByRecursion (λ (r : ReplyValue). IsTrueOf run r.packet r.outcome) replies
    → slice_get replies index ≡ Some reply → IsTrueOf run reply.packet reply.outcome
at-index run [] index reply all got = cc
at-index run (first ∷ replies) zero reply all got =
    let same : first ≡ reply = cc in subst (λ (r : ReplyValue). IsTrueOf run r.packet r.outcome) same all.0
at-index run (first ∷ replies) (suc index) reply all got = at-index run replies index reply all.1 got

-- ---- the headline

-- each submitter has the replies that are due
abbrev AreDue : Run → Type 0
AreDue run =
    (submitter : ℕ) → submitter < run.submitters
    → run.replies submitter ≡ due run.ledger.opening (length run.before) run.queue (inputs run.ledger) submitter

module _ (run : Run) (filled : IsQueueOf run.submitters run.queue run.queued) where
  -- the packets that a submitter queued are those of the queue that name it
  pub jobs-queued : (submitter : ℕ) → submitter < run.submitters
      → jobs_of submitter (items_in run.queue) ≡ packets_queued (run.queued submitter)
  jobs-queued submitter below =
      sym (jobs-part run.submitters submitter run.queue filled.submitted)
      ∙ ap packets_queued (filled.parts submitter (omega (arith, below)))

  pub all-replied : AreDue run → (submitter : ℕ) → submitter < run.submitters
      → map (λ (reply : ReplyValue). reply.packet) (run.replies submitter) ≡ packets_queued (run.queued submitter)
  all-replied are submitter below =
      ap (map (λ (reply : ReplyValue). reply.packet)) (are submitter below)
      ∙ one-each run.ledger.opening submitter (inputs run.ledger) (Ahead (length run.before)) (items_in run.queue)
      ∙ jobs-queued submitter below

  pub all-true : IsPrefix (committed_in run) (ahead_in run) → AreDue run → (submitter index : ℕ) (reply : ReplyValue)
      → submitter < run.submitters → slice_get (run.replies submitter) index ≡ Some reply
      → IsTrueOf run reply.packet reply.outcome
  all-true committed are submitter index reply below got =
      at-index run _ index reply
      (true-ahead run submitter committed (length run.before) 0 [] (items_in run.queue) (omega arith) refl tt
      (subst (AreFrom submitter 0) (sym (jobs-queued submitter below))
      (from-numbered submitter 0 (run.queued submitter) (filled.numbered submitter (omega (arith, below))))))
      (sym (ap (λ rs. slice_get rs index) (are submitter below)) ∙ got)

pub headline : ReportsHeadline
headline run is =
    record {
      queued = is.filled;
      continues = is.continues;
      committed = is.committed;
      all = is.complete.0;
      replied = all-replied run is.filled is.replied;
      answered = all-true run is.filled is.committed is.replied;
      state = is.state;
    }
