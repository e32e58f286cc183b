-- What a front and a ledger did is what is due, and the report on it is lawful.
use Rattle.std.proofs.Common.{refl, sym, ap, subst, ◌∙◌, arith, ◌≡◌, ◌<◌, ◌≤◌, ℕ, zero, suc, ◌+◌, Bool, true, false, List, [], ◌∷◌, ◌++◌, take, drop, length, length-append, length-take, append_assoc, append-nil, Option, Some, None}
use Rattle.tb_core.proofs.Words.{◌==◌, slice_get, is_some, IfSome, filter, if◌then◌else◌, AllByRecursion, le-leb, lt-leb, eq-eqb, cond_both, both_ways, or_parts, or_from, or_right, take-append-drop, drop_all, nil_from_length, list_any-append, Input, replay, ahead, items_in, IsSubmitted, AreSubmitted, ReplyValue, input_of, reply_with, Item, Ticket, outcome_at, reply_due, all_due_from, all_due, replies_to, Place, Ahead, Behind, next_place, inputs_in, replies_from, Decision, decisions_from, decisions_of, IsPacket, AreDecisions, LedgerState, inputs, inputs_since, new_ledger, is_stopped, any_stopped, committed_in, ahead_in, IsPrefix, IsListed, Commits, Ran, RunIsLawful}
use Rattle.tb_layout.specs.claim.Events as input
use Rattle.tb_work.specs.declared.outcome.Outcome.TheVariants as outcome
use Rattle.tb_work.specs.declared.item.Item.TheVariants as item
use Rattle.tb_core.proofs.LedgerSteps.{outcome_past, outcome_here, inputs_in-append, replies_from-append, replies_from-longer}
use Rattle.tb_core.proofs.FrontDecisions.{never_stops}
use Rattle.tb_core.proofs.Since.{cancel, prefix-inputs, inputs-parts}

-- ---- what a front let through, and what is due to it

-- after the Close each packet comes back
behind_close : (clock place : ℕ) (stop : Option ℕ) (journal : List Input) (items : List Item) →
    (inputs_in (decisions_from stop Behind items) ≡ [])
    × (replies_from clock journal place (decisions_from stop Behind items)
    ≡ all_due_from clock journal Behind items)
behind_close clock place stop journal [] = (refl, refl)
behind_close clock place stop journal (item.Packet job ∷ items) =
    let others = behind_close clock place stop journal
    items in (others.0, ap (λ rs. reply_with outcome.Shutdown job ∷ rs) others.1)
behind_close clock place stop journal (x ∷ items) = behind_close clock place stop journal items

-- what was let through until a stop, with a journal
module _ (clock through : ℕ) (journal : List Input) where
  -- from the stop on each packet comes back, as one that the journal doesn't reach; `at` is the place in the journal, and `k`
  -- counts what this front took
  from_stop : (place k at : ℕ) (items : List Item) → length journal ≤ at → through ≤ k →
      (inputs_in (decisions_from (Some through) (Ahead k) items) ≡ [])
      × (replies_from clock journal place (decisions_from (Some through) (Ahead k) items)
      ≡ all_due_from clock journal (Ahead at) items)
  from_stop place k at [] far h = (refl, refl)
  from_stop place k at (item.Packet job ∷ items) far h =
      let others = from_stop place (k + 1) (at + 1) items (omega (arith, far)) (omega (arith, h)) in
      rw (le-leb through k h) (
        others.0,
        rw (outcome_past clock at journal far) (ap (λ rs. reply_with outcome.Stopped job ∷ rs) others.1),
      )
  from_stop place k at (item.Pulse moment ∷ items) far h =
      rw (le-leb through k h) (from_stop place (k + 1) (at + 1) items (omega (arith, far)) (omega (arith, h)))
  from_stop place k at (item.End ∷ items) far h = from_stop place k at items far h
  from_stop place k at (item.Close ∷ items) far h = behind_close clock place (Some through) journal items

  -- what was let through, at most this number, is the first part of what is ahead; and a journal that reaches no further
  -- gives the replies that are due
  let_through : (most k at : ℕ) (items : List Item) → length journal ≤ at + most → through ≡ k + most →
      (inputs_in (decisions_from (Some through) (Ahead k) items) ≡ take most (ahead items))
      × (replies_from clock journal at (decisions_from (Some through) (Ahead k) items)
      ≡ all_due_from clock journal (Ahead at) items)
  let_through zero k at items far h = from_stop at k at items (omega (arith, far)) (omega (arith, h))
  let_through (suc most) k at [] far h = (refl, refl)
  let_through (suc most) k at (item.Packet job ∷ items) far h =
      let others = let_through most (k + 1) (at + 1) items (omega (arith, far)) (omega (arith, h)) in
      rw (lt-leb through k (omega (arith, h))) (
        ap (λ ws. input_of job ∷ ws) others.0,
        ap (λ rs. reply_with (outcome_at clock journal (Ahead at)) job ∷ rs) others.1,
      )
  let_through (suc most) k at (item.Pulse moment ∷ items) far h =
      let others = let_through most (k + 1) (at + 1) items (omega (arith, far)) (omega (arith, h)) in
      rw (lt-leb through k (omega (arith, h))) (ap (λ ws. input.Pulse moment ∷ ws) others.0, others.1)
  let_through (suc most) k at (item.End ∷ items) far h = let_through (suc most) k at items far h
  let_through (suc most) k at (item.Close ∷ items) far h = behind_close clock at (Some through) journal items

-- how many were let through at most, if the front may have stopped
abbrev most_of : Option ℕ → List Item → ℕ
most_of None items = length (ahead items)
most_of (Some through) items = through

passed_through : (clock before : ℕ) (stop : Option ℕ) (journal : List Input) (items : List Item)
    → length journal ≤ before + most_of stop items →
    (inputs_in (decisions_of stop items) ≡ take (most_of stop items) (ahead items))
    × (replies_from clock journal before (decisions_of stop items) ≡ all_due clock before items journal)
passed_through clock before None journal items far = let most =
    length (ahead items) in rw (never_stops 0 most items (omega arith))
    (let_through clock most journal most 0 before items far (omega arith))
passed_through clock before (Some through) journal items far =
    let_through clock through journal through 0 before items far (omega arith)

-- ---- which submitters learn that the pipeline stopped

none_behind : (clock : ℕ) (journal : List Input) (items : List Item)
    → any_stopped (all_due_from clock journal Behind items) ≡ false
none_behind clock journal [] = refl
none_behind clock journal (item.Packet job ∷ items) = none_behind clock journal items
none_behind clock journal (x ∷ items) = none_behind clock journal items

-- nobody, if the journal has all that is ahead
none_stopped_if_all : (clock k : ℕ) (journal before : List Input) (items : List Item) → journal ≡ before ++ ahead items
    → k ≡ length before → any_stopped (all_due_from clock journal (Ahead k) items) ≡ false
none_stopped_if_all clock k journal before [] all k_is = refl
none_stopped_if_all clock k journal before (item.Packet job ∷ items) all k_is =
    let one = input_of job ∷ [] in
    let here = ap (λ ws. outcome_at clock ws (Ahead k)) all
    ∙ outcome_here clock k (replay clock before) before job (ahead items) k_is refl in
    rw here (none_stopped_if_all clock (k + 1) journal (before ++ one) items
    (all ∙ sym (append_assoc before one (ahead items))) (omega (arith, k_is, length-append before one)))
none_stopped_if_all clock k journal before (item.Pulse moment ∷ items) all k_is =
    let one = input.Pulse moment ∷ [] in
    none_stopped_if_all clock (k + 1) journal (before ++ one) items (all ∙ sym (append_assoc before one (ahead items)))
    (omega (arith, k_is, length-append before one))
none_stopped_if_all clock k journal before (item.End ∷ items) all k_is = none_stopped_if_all clock k journal before items all k_is
none_stopped_if_all clock k journal before (item.Close ∷ items) all k_is = none_behind clock journal items

-- somebody, if the journal ends in front of a packet that is ahead
one_stopped_if_short : (clock k left : ℕ) (journal : List Input) (items : List Item) → length journal ≤ k + left
    → IsPacket (slice_get (ahead items) left) → any_stopped (all_due_from clock journal (Ahead k) items) ≡ true
one_stopped_if_short clock k left journal [] far packet = absurd packet
one_stopped_if_short clock k zero journal (item.Packet job ∷ items) far packet =
    rw (outcome_past clock k journal (omega (arith, far))) refl
one_stopped_if_short clock k (suc left) journal (item.Packet job ∷ items) far packet =
    or_right _ _ (one_stopped_if_short clock (k + 1) left journal items (omega (arith, far)) packet)
one_stopped_if_short clock k zero journal (item.Pulse moment ∷ items) far packet = absurd packet
one_stopped_if_short clock k (suc left) journal (item.Pulse moment ∷ items) far packet =
    one_stopped_if_short clock (k + 1) left journal items (omega (arith, far)) packet
one_stopped_if_short clock k left journal (item.End ∷ items) far packet = one_stopped_if_short clock k left journal items far packet
one_stopped_if_short clock k left journal (item.Close ∷ items) far packet = absurd packet

-- nobody of the first of them
pub none_of_first : (replies others all : List ReplyValue) → replies ++ others ≡ all → any_stopped all ≡ false
    → any_stopped replies ≡ false
none_of_first replies others all is none =
    (or_parts (any_stopped replies) (any_stopped others)
    (sym (list_any-append (λ (reply : ReplyValue). is_stopped reply.outcome) replies others)
    ∙ ap any_stopped is ∙ none)).0

-- nobody of some
pub none_among : (q : ReplyValue → Bool) (replies : List ReplyValue) → any_stopped replies ≡ false
    → any_stopped (filter q replies) ≡ false
none_among q [] none = refl
none_among q (reply ∷ replies) none =
    let parts = or_parts (is_stopped reply.outcome) (any_stopped replies) none in
    let others = none_among q replies parts.1 in
    cond_both (q reply) _ _ (λ rs. any_stopped rs ≡ false)
    (λ taken. or_from (is_stopped reply.outcome) _ parts.0 others) (λ left. others)

abbrev AreAmong : ℕ → List ReplyValue → Type 0
AreAmong submitters replies = AllByRecursion (λ (reply : ReplyValue). reply.packet.submitter < submitters) replies

-- replies to a queue are replies to its submitters
due_among : (clock submitters : ℕ) (journal : List Input) (place : Place) (queue : List Ticket)
    → AreSubmitted submitters queue → AreAmong submitters (all_due_from clock journal place (items_in queue))
due_among clock submitters journal place [] all = tt
due_among clock submitters journal place (ticket ∷ queue) all =
    one ticket.item all.0 (due_among clock submitters journal (next_place place ticket.item) queue all.1)
  where
    one : (x : Item) → IsSubmitted submitters ticket.sender x
        → AreAmong submitters (all_due_from clock journal (next_place place x) (items_in queue)) →
        AreAmong submitters (reply_due (outcome_at clock journal place) x
        ++ all_due_from clock journal (next_place place x) (items_in queue))
    one (item.Packet job) is others = (subst (λ n. n < submitters) (sym is.0) is.1, others)
    one x is others = others

-- if none of the submitters learns of a stop, nobody does
none_at_all : (submitters : ℕ) (replies : List ReplyValue) → AreAmong submitters replies
    → ((submitter : ℕ) → submitter < submitters → any_stopped (replies_to replies submitter) ≡ false)
    → any_stopped replies ≡ false
none_at_all submitters [] all none = refl
none_at_all submitters (reply ∷ replies) all none =
    or_from (is_stopped reply.outcome) (any_stopped replies) (own (none reply.packet.submitter all.0))
    (none_at_all submitters replies all.1 (λ submitter below.
    others submitter (reply.packet.submitter == submitter) (none submitter below)))
  where
    own : any_stopped (replies_to (reply ∷ replies) reply.packet.submitter) ≡ false → is_stopped reply.outcome ≡ false
    own h =
        let own = reply.packet.submitter in
        let its : (own == own) ≡ true = eq-eqb own own refl in
        (or_parts (is_stopped reply.outcome) _ (rw its at h)).0

    others : (submitter : ℕ) (b : Bool) → any_stopped
        (if b then reply ∷ replies_to replies submitter else replies_to replies submitter) ≡ false
        → any_stopped (replies_to replies submitter) ≡ false
    others submitter true h = (or_parts (is_stopped reply.outcome) _ h).1
    others submitter false h = h

-- ---- a run

nothing_left : {X : Type 0} (xs ys : List X) → xs ++ ys ≡ [] → (xs ≡ []) × (ys ≡ [])
nothing_left [] ys e = (refl, e)
nothing_left (x ∷ xs) ys e = cc

-- since it was `start` a ledger took some of what a front made of a queue, and the rest is on the way
pub record SoFar (start : LedgerState) (items : List Item) (stopped : Bool) (ledger : LedgerState)
    (answers : List ReplyValue) (way : List Decision) : Type 0 where
  pub remainder : List Input
  pub committed : inputs_since start ledger ++ remainder ≡ ahead items
  pub later : List ReplyValue
  pub due : answers ++ later ≡ all_due start.opening (length (inputs start)) items (inputs ledger)
  pub replied : way ≡ [] → answers ≡ all_due start.opening (length (inputs start)) items (inputs ledger)
  -- all of it is committed or on the way if neither stopped, and then nobody learns of a stop
  pub whole : stopped ≡ false → ledger.stopped ≡ false → inputs_since start ledger ++ inputs_in way ≡ ahead items
  pub no_stop_seen : stopped ≡ false → ledger.stopped ≡ false → any_stopped answers ≡ false
  -- with nothing on the way, nothing remains exactly if the ledger hasn't stopped and nobody learned of a stop
  pub nothing_remains : way ≡ [] → ledger.stopped ≡ false → any_stopped answers ≡ false → remainder ≡ []
  pub nothing_stopped : remainder ≡ [] → (ledger.stopped ≡ false) × (any_stopped answers ≡ false)

pub so_far : {start : LedgerState} {items : List Item} {closed stopped : Bool} {applied : List Decision}
    {ledger : LedgerState} {answers : List ReplyValue} (way : List Decision)
    → AreDecisions items closed stopped (applied ++ way) → Commits start applied ledger answers
    → SoFar start items stopped ledger answers way
so_far {start} {items} {stopped} {applied} {ledger} {answers} way passes commits =
    record {
      remainder = (commits.remainder ++ inputs_in way) ++ rest;
      committed = sym (append_assoc since (commits.remainder ++ inputs_in way) rest)
          ∙ ap (λ ws. ws ++ rest) longer ∙ parts;
      later = replies_from clock journal here way;
      due = due;
      replied = replied;
      whole = λ on goes. all (since_is (commits.whole goes)) (rest_is passes.stop refl (sym on ∙ passes.stops));
      no_stop_seen = λ on goes. let is =
          since_is (commits.whole goes) in all_committed is (all is (rest_is passes.stop refl (sym on ∙ passes.stops)));
      nothing_remains = λ none goes no_stop_seen. ap (λ ws. (ws ++ inputs_in way) ++ rest) (commits.whole goes)
          ∙ ap (λ ps. inputs_in ps ++ rest) none ∙ left passes.stop refl passes.at_packet none no_stop_seen;
      nothing_stopped = λ none.
          let two = nothing_left (commits.remainder ++ inputs_in way) rest none in
          let one = nothing_left commits.remainder (inputs_in way) two.0 in
          let is = since_is one.0 in
          (commits.unstopped one.0, all_committed is (all is two.1));
    }
  where
    clock : ℕ
    clock = start.opening

    before : ℕ
    before = length (inputs start)

    journal : List Input
    journal = inputs ledger

    since : List Input
    since = inputs_since start ledger

    journal_parts : inputs start ++ since ≡ journal
    journal_parts = inputs-parts start ledger commits.continues

    most : ℕ
    most = most_of passes.stop items

    -- the place after what was applied
    here : ℕ
    here = before + length (inputs_in applied)

    rest : List Input
    rest = drop most (ahead items)

    through : inputs_in (applied ++ way) ≡ take most (ahead items)
    through = ap inputs_in passes.all ∙ (passed_through clock before passes.stop [] items (omega arith)).0

    parts : inputs_in (applied ++ way) ++ rest ≡ ahead items
    parts = ap (λ ws. ws ++ rest) through ∙ take-append-drop most (ahead items)

    since_parts : since ++ commits.remainder ≡ inputs_in applied
    since_parts = cancel (inputs start) (since ++ commits.remainder) (inputs_in applied)
        (sym (append_assoc (inputs start) since commits.remainder)
        ∙ ap (λ ws. ws ++ commits.remainder) journal_parts ∙ commits.committed)

    longer : since ++ (commits.remainder ++ inputs_in way) ≡ inputs_in (applied ++ way)
    longer = sym (append_assoc since commits.remainder (inputs_in way))
        ∙ ap (λ ws. ws ++ inputs_in way) since_parts ∙ sym (inputs_in-append applied way)

    replies_are : (now : List Input) → length now ≤ before + most
        → replies_from clock now before applied ++ replies_from clock now here way ≡ all_due clock before items now
    replies_are now short =
        sym (replies_from-append clock now before applied way) ∙ ap (replies_from clock now before) passes.all
        ∙ (passed_through clock before passes.stop now items short).1

    journal_long : length journal ≡ before + length since
    journal_long = ap length (sym journal_parts) ∙ length-append (inputs start) since

    short : length journal ≤ before + most
    short = omega (
      arith,
      journal_long,
      ap length longer,
      length-append since
          (commits.remainder ++ inputs_in way),
      ap length through,
      length-take most (ahead items),
    )

    due : answers ++ replies_from clock journal here way ≡ all_due clock before items journal
    due = ap (λ rs. rs ++ replies_from clock journal here way) commits.replied ∙ replies_are journal short

    replied : way ≡ [] → answers ≡ all_due clock before items journal
    replied none = sym (append-nil answers) ∙ ap (λ ps. answers ++ replies_from clock journal here ps) (sym none) ∙ due

    rest_is : (stop : Option ℕ) → passes.stop ≡ stop → false ≡ is_some stop → rest ≡ []
    rest_is None is on = drop_all most (ahead items) (omega (arith, ap (λ stop. most_of stop items) is))
    rest_is (Some k) is on = cc

    -- a front that stopped rejected a packet that is ahead, and that packet's reply reports the stop
    left : (stop : Option ℕ) → passes.stop ≡ stop → IfSome stop (λ k. IsPacket (slice_get (ahead items) k))
        → way ≡ [] → any_stopped answers ≡ false → rest ≡ []
    left None is packet none no_stop_seen = rest_is None is refl
    left (Some k) is packet none no_stop_seen =
        absurd (both_ways (any_stopped answers) no_stop_seen
        (ap any_stopped (replied none) ∙ one_stopped_if_short clock before k journal items
        (omega (arith, short, ap (λ stop. most_of stop items) is)) packet))

    since_is : commits.remainder ≡ [] → since ≡ inputs_in applied
    since_is none = sym (append-nil since) ∙ ap (λ ws. since ++ ws) (sym none) ∙ since_parts

    all : since ≡ inputs_in applied → rest ≡ [] → since ++ inputs_in way ≡ ahead items
    all is none =
        ap (λ ws. ws ++ inputs_in way) is ∙ sym (inputs_in-append applied way) ∙ sym (append-nil _)
        ∙ ap (λ ws. inputs_in (applied ++ way) ++ ws) (sym none) ∙ parts

    -- what is on the way doesn't change what was answered
    all_committed : since ≡ inputs_in applied → since ++ inputs_in way ≡ ahead items → any_stopped answers ≡ false
    all_committed is all_is =
        let now = journal ++ inputs_in way in
        let same : answers ≡ replies_from clock now before applied = commits.replied
        ∙ sym (replies_from-longer clock journal (inputs_in way) before applied
        (omega (arith, journal_long, ap length is))) in
        let within : length now ≤ before + most = omega (
          arith,
          journal_long,
          length-append journal (inputs_in way),
          length-append since (inputs_in way),
          ap length
              (ap (λ ws. ws ++ inputs_in way) is ∙ sym (inputs_in-append applied way) ∙ through),
          length-take most (ahead items),
        ) in
        none_of_first answers (replies_from clock now here way) (all_due clock before items now)
        (ap (λ rs. rs ++ replies_from clock now here way) same ∙ replies_are now within)
        (none_stopped_if_all clock before now (inputs start) items
        (ap (λ ws. ws ++ inputs_in way) (sym journal_parts) ∙ append_assoc (inputs start) since (inputs_in way)
        ∙ ap (λ ws. inputs start ++ ws) all_is) refl)

run_so_far : {start : LedgerState} {items : List Item} {ledger : LedgerState} {answers : List ReplyValue}
    (run : Ran start items ledger answers) → SoFar start items run.stopped ledger answers []
run_so_far {items} run =
    so_far [] (subst (AreDecisions items run.closed run.stopped) (sym (append-nil run.decisions)) run.passed) run.commits

none_after : {X : Type 0} (front rest : List X) → front ++ rest ≡ front → rest ≡ []
none_after front rest is = nil_from_length rest (omega (arith, ap length is, length-append front rest))

pub run_is_lawful : RunIsLawful
run_is_lawful run start answers filled before_is ran theirs =
    let journal = inputs run.ledger in
    let far = run_so_far ran in
    let is_due : answers ≡ all_due run.ledger.opening (length run.before) (items_in run.queue) journal =
    far.replied refl
    ∙ ap (λ (ws : List Input). all_due start.opening (length ws) (items_in run.queue) journal) (sym before_is)
    ∙ ap (λ clock. all_due clock (length run.before) (items_in run.queue) journal) (sym ran.commits.from) in
    let among = subst (AreAmong run.submitters) (sym is_due)
    (due_among run.ledger.opening run.submitters journal (Ahead (length run.before)) run.queue filled.submitted) in
    let committed : committed_in run ++ far.remainder ≡ ahead_in run =
    ap (λ (ws : List Input). drop (length ws) journal ++ far.remainder) before_is ∙ far.committed in
    record {
      filled = filled;
      continues = subst (λ ws. IsPrefix ws journal) (sym before_is) (prefix-inputs start run.ledger ran.commits.continues);
      committed = (far.remainder, committed);
      complete = (
        λ nothing. let none = far.nothing_remains refl nothing.ledger
            (none_at_all run.submitters answers among (λ submitter below. sym (ap any_stopped (theirs submitter below))
            ∙ nothing.replies submitter below)) in
            sym (append-nil (committed_in run)) ∙ ap (λ rest. committed_in run ++ rest) (sym none) ∙ committed,
        λ all. let none = none_after (committed_in run) far.remainder (committed ∙ sym all) in
            record {
              ledger = (far.nothing_stopped none).0;
              replies = λ submitter below. ap any_stopped (theirs submitter below)
                  ∙ none_among (λ (reply : ReplyValue). reply.packet.submitter == submitter) answers
                  (far.nothing_stopped none).1;
            },
      );
      state = ran.commits.state ∙ ap (λ clock. replay clock journal) (sym ran.commits.from);
      replied = λ submitter below. theirs submitter below ∙ ap (λ rs. replies_to rs submitter) is_due;
    }

-- if neither stopped, a list has been run whole
pub run_is_listed : (clock : ℕ) (items : List Item) (ledger : LedgerState) (answers : List ReplyValue)
    (run : Ran (new_ledger clock) items ledger answers) → ledger.stopped ≡ false → run.stopped ≡ false
    → IsListed clock items ledger answers
run_is_listed clock items ledger answers run goes on =
    let far = run_so_far run in
    let all = sym (append-nil (inputs ledger)) ∙ far.whole on goes in
    record {
      from = run.commits.from;
      goes_on = goes;
      committed = all;
      replied = far.replied refl
          ∙ ap (all_due clock 0 items) all;
    }
