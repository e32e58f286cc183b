-- Packets laid one after another, none of them open, give what each gives by itself.
use Rattle.std.proofs.Common.{refl, sym, ap, subst, ◌∙◌, arith, ◌≡◌, ℕ, ◌+◌, ◌-◌, ◌≤◌, Bool, true, false, not, List, [], ◌∷◌, ◌++◌, map, filter, length, append_assoc, length-append, append-nil, cond}
use Rattle.tb_machine.proofs.Words.{if◌then◌else◌, ◌==◌, ◌&&◌, nat_le, nat_lt, fold, nat_tests, Failure, Events, is_last_linked, Facts, clock_max, clock_after, Operation, Results, before_chains, chains_of, chain_results, chains_results, events_results, failures_from, State, results_of, after_packet, failures_of, after_results, then_results}
use Rattle.std.proofs.lemmas.List.Elements.{filter-append}
use Rattle.tb_layout.specs.claim.Failures.{RiseWithin, is_within, from_offset, failures_within}
use Rattle.tb_machine.specs.clauses.Joining.{events_in_turn, none_open, cuts, failures_each, GiveAsEach, JoiningIsInvisible}
use Rattle.tb_machine.proofs.Faults.{length-chain_results}
use Rattle.tb_machine.proofs.Failures.{failures_from-append, failing}

-- ---- the chains of packets

abbrev before_if : {Event : Type 0} → Bool → Event → List (List Event) → List (List Event)
before_if is_linked event chains = if is_linked then before_chains event chains else (event ∷ []) ∷ chains

abbrev IsSome : {Event : Type 0} → List (List Event) → Type 0
IsSome {Event} chains = (chain : List Event) × (rest : List (List Event)) × (chains ≡ chain ∷ rest)

before_if-some : {Event : Type 0} (is_linked : Bool) (event : Event) (chains : List (List Event))
    → IsSome (before_if is_linked event chains)
before_if-some true event [] = (_, _, refl)
before_if-some true event (chain ∷ chains) = (_, _, refl)
before_if-some false event chains = (_, _, refl)

before_if-append : {Event : Type 0} (is_linked : Bool) (event : Event) (chains more : List (List Event))
    → IsSome chains → before_if is_linked event (chains ++ more) ≡ before_if is_linked event chains ++ more
before_if-append true event chains more some = rw some.2 refl
before_if-append false event chains more some = refl

-- chains of events whose last is not linked end before the events that follow
chains_of-append : {Event : Type 0} (is_linked : Event → Bool) (xs ys : List Event)
    → is_last_linked is_linked xs ≡ false → chains_of is_linked (xs ++ ys)
    ≡ chains_of is_linked xs ++ chains_of is_linked ys
chains_of-append is_linked [] ys closed = refl
chains_of-append is_linked (x ∷ []) ys closed = rw closed refl
chains_of-append is_linked (x ∷ y ∷ xs) ys closed =
    ap (before_if (is_linked x) x) (chains_of-append is_linked (y ∷ xs) ys closed)
    ∙ before_if-append (is_linked x) x (chains_of is_linked (y ∷ xs)) (chains_of is_linked ys)
    (before_if-some (is_linked y) y (chains_of is_linked xs))

laid-before_if : {Event : Type 0} (is_linked : Bool) (event : Event) (chains : List (List Event))
    → events_in_turn (before_if is_linked event chains) ≡ event ∷ events_in_turn chains
laid-before_if true event [] = refl
laid-before_if true event (chain ∷ chains) = refl
laid-before_if false event chains = refl

laid-chains_of : {Event : Type 0} (is_linked : Event → Bool) (events : List Event)
    → events_in_turn (chains_of is_linked events) ≡ events
laid-chains_of is_linked [] = refl
laid-chains_of is_linked (event ∷ events) =
    laid-before_if (is_linked event) event (chains_of is_linked events)
    ∙ ap (λ es. event ∷ es) (laid-chains_of is_linked events)

-- ---- their results

clock_after-more : (clock m n : ℕ) → clock_after clock (m + n) ≡ clock_after (clock_after clock m) n
clock_after-more clock m n = omega arith

length-chains_results : {Event : Type 0} (operation : Operation Event) (clock : ℕ) (facts : Facts)
    (chains : List (List Event)) → length (chains_results operation clock facts chains).results
    ≡ length (events_in_turn chains)
length-chains_results operation clock facts [] = refl
length-chains_results operation clock facts (chain ∷ chains) =
    let first = chain_results operation clock facts chain in
    let rest = chains_results operation (clock_after clock (length chain)) first.facts chains in
    omega (
      arith,
      length-append first.results rest.results,
      length-append chain
          (events_in_turn chains),
      length-chain_results operation clock facts chain,
      length-chains_results operation
          (clock_after clock (length chain)) first.facts chains,
    )

then_results-assoc : (a b c : Results) → then_results a (then_results b c) ≡ then_results (then_results a b) c
then_results-assoc a b c =
    ap (λ results. record { results = results; facts = c.facts }) (sym (append_assoc a.results b.results c.results))

chains_results-append : {Event : Type 0} (operation : Operation Event) (clock : ℕ) (facts : Facts)
    (chains more : List (List Event)) → clock ≤ clock_max →
    let first = chains_results operation clock facts chains in
    chains_results operation clock facts (chains ++ more)
    ≡ then_results first (chains_results operation
    (clock_after clock (length (events_in_turn chains))) first.facts more)
chains_results-append operation clock facts [] more h =
    ap (λ c. chains_results operation c facts more) (let e : clock ≡ clock_after clock 0 = omega arith in e)
chains_results-append operation clock facts (chain ∷ chains) more h =
    let first = chain_results operation clock facts chain in
    let next = clock_after clock (length chain) in
    let rest = chains_results operation next first.facts chains in
    let later : clock_after next (length (events_in_turn chains))
    ≡ clock_after clock (length (events_in_turn (chain ∷ chains))) =
    sym (clock_after-more clock (length chain) (length (events_in_turn chains)))
    ∙ ap (clock_after clock) (sym (length-append chain (events_in_turn chains))) in
    ap (then_results first) (chains_results-append operation next first.facts chains more (omega arith))
    ∙ then_results-assoc first rest (chains_results operation
    (clock_after next (length (events_in_turn chains))) rest.facts more)
    ∙ ap (λ c. then_results (then_results first rest) (chains_results operation c rest.facts more)) later

events_results-append : {Event : Type 0} (operation : Operation Event) (clock : ℕ) (facts : Facts)
    (xs ys : List Event) → clock ≤ clock_max → is_last_linked operation.is_linked xs ≡ false →
    let first = events_results operation clock facts xs in
    events_results operation clock facts (xs ++ ys)
    ≡ then_results first (events_results operation (clock_after clock (length xs)) first.facts ys)
events_results-append operation clock facts xs ys h closed =
    let first = events_results operation clock facts xs in
    ap (chains_results operation clock facts) (chains_of-append operation.is_linked xs ys closed)
    ∙ chains_results-append operation clock facts (chains_of operation.is_linked xs)
    (chains_of operation.is_linked ys) h
    ∙ ap (λ (es : List _). then_results first (events_results operation
    (clock_after clock (length es)) first.facts ys)) (laid-chains_of operation.is_linked xs)

pub length-events_results : {Event : Type 0} (operation : Operation Event) (clock : ℕ) (facts : Facts)
    (events : List Event) → length (events_results operation clock facts events).results ≡ length events
length-events_results operation clock facts events =
    length-chains_results operation clock facts (chains_of operation.is_linked events)
    ∙ ap length (laid-chains_of operation.is_linked events)

-- ---- failures of a range

rise_later : (low next high : ℕ) (failures : List Failure) → low ≤ next → RiseWithin next high failures
    → RiseWithin low high failures
rise_later low next high [] h rise = tt
rise_later low next high (failure ∷ failures) h rise = (omega (arith, rise.0), rise.1, rise.2)

-- failures rise in index
pub failures_rise : (index : ℕ) (codes : List ℕ) → RiseWithin index (index + length codes) (failures_from index codes)
failures_rise index [] = tt
failures_rise index (code ∷ codes) =
    let end : index + 1 + length codes ≡ index + length (code ∷ codes) = omega arith in
    by (code == 0) (subst (λ high. RiseWithin (index + 1) high (failures_from (index + 1) codes)) end
    (failures_rise (index + 1) codes))
  where
    by : (b : Bool) → RiseWithin (index + 1) (index + length (code ∷ codes)) (failures_from (index + 1) codes) →
        RiseWithin index (index + length (code ∷ codes))
        (if b then failures_from (index + 1) codes else record { index = index; code = code }
        ∷ failures_from (index + 1) codes)
    by true rest =
        rise_later index (index + 1) (index + length (code ∷ codes))
        (failures_from (index + 1) codes) (omega arith) rest
    by false rest = (omega arith, omega arith, rest)

within : (offset count index : ℕ) → offset ≤ index → index + 1 ≤ offset + count
    → (nat_le offset index && nat_lt index (offset + count)) ≡ true
within offset count index h k = grind (arith, nat_tests)

below : (offset count index : ℕ) → index + 1 ≤ offset → (nat_le offset index && nat_lt index (offset + count)) ≡ false
below offset count index h = grind (arith, nat_tests)

above : (offset count index : ℕ) → offset + count ≤ index
    → (nat_le offset index && nat_lt index (offset + count)) ≡ false
above offset count index h = grind (arith, nat_tests)

kept : (offset count low high : ℕ) (failures : List Failure) → RiseWithin low high failures → offset ≤ low
    → high ≤ offset + count → filter (is_within offset count) failures ≡ failures
kept offset count low high [] rise h k = refl
kept offset count low high (failure ∷ failures) rise h k =
    ap (λ b. cond b (failure ∷ filter (is_within offset count) failures) (filter (is_within offset count) failures))
    (within offset count failure.index (omega (arith, rise.0)) (omega (arith, rise.1)))
    ∙ ap (λ fs. failure ∷ fs) (kept offset count (failure.index + 1) high failures rise.2 (omega (arith, rise.0)) k)

none_below : (offset count low high : ℕ) (failures : List Failure) → RiseWithin low high failures → high ≤ offset
    → filter (is_within offset count) failures ≡ []
none_below offset count low high [] rise h = refl
none_below offset count low high (failure ∷ failures) rise h =
    ap (λ b. cond b (failure ∷ filter (is_within offset count) failures) (filter (is_within offset count) failures))
    (below offset count failure.index (omega (arith, rise.1)))
    ∙ none_below offset count (failure.index + 1) high failures rise.2 h

none_above : (offset count low high : ℕ) (failures : List Failure) → RiseWithin low high failures
    → offset + count ≤ low → filter (is_within offset count) failures ≡ []
none_above offset count low high [] rise h = refl
none_above offset count low high (failure ∷ failures) rise h =
    ap (λ b. cond b (failure ∷ filter (is_within offset count) failures) (filter (is_within offset count) failures))
    (above offset count failure.index (omega (arith, rise.0)))
    ∙ none_above offset count (failure.index + 1) high failures rise.2 (omega (arith, rise.0))

rebased-chosen : (offset : ℕ) (b : Bool) (failure : Failure) (failures : List Failure) →
    map (from_offset offset) (if b then failures else failure ∷ failures)
    ≡ (if b then map (from_offset offset) failures
    else from_offset offset failure ∷ map (from_offset offset) failures)
rebased-chosen offset true failure failures = refl
rebased-chosen offset false failure failures = refl

rebased-failures : (offset index : ℕ) (codes : List ℕ)
    → map (from_offset offset) (failures_from (offset + index) codes) ≡ failures_from index codes
rebased-failures offset index [] = refl
rebased-failures offset index (code ∷ codes) =
    let here : offset + index - offset ≡ index = omega arith in
    let next : offset + index + 1 ≡ offset + (index + 1) = omega arith in
    rebased-chosen offset (code == 0) (record { index = offset + index; code = code })
    (failures_from (offset + index + 1) codes)
    ∙ ap (failing (offset + index - offset) code)
    (ap (λ i. map (from_offset offset) (failures_from i codes)) next
    ∙ rebased-failures offset (index + 1) codes)
    ∙ ap (λ i. failing i code (failures_from (index + 1) codes)) here

-- those of some results in the middle
pub cut-middle : (before codes after : List ℕ)
    → failures_within (length before) (length codes)
    (failures_from 0 (before ++ (codes ++ after))) ≡ failures_from 0 codes
cut-middle before codes after =
    let offset = length before in
    let count = length codes in
    let test = filter (is_within offset count) in
    let mid = failures_from offset codes in
    let last = failures_from (offset + count) after in
    let whole : failures_from 0 (before ++ (codes ++ after)) ≡ failures_from 0 before ++ (mid ++ last) =
    failures_from-append 0 before (codes ++ after)
    ∙ ap (λ i. failures_from 0 before ++ failures_from i (codes ++ after)) (omega arith)
    ∙ ap (λ rest. failures_from 0 before ++ rest) (failures_from-append offset codes after) in
    let only : test (failures_from 0 before ++ (mid ++ last)) ≡ mid =
    filter-append (is_within offset count) (failures_from 0 before) (mid ++ last)
    ∙ ap (λ front. front ++ test (mid ++ last)) (none_below offset count 0 (0 + offset) (failures_from 0 before)
    (failures_rise 0 before) (omega arith))
    ∙ filter-append (is_within offset count) mid last
    ∙ ap (λ front. front ++ test last) (kept offset count offset (offset + count) mid (failures_rise offset codes)
    (omega arith) (omega arith))
    ∙ ap (λ back. mid ++ back) (none_above offset count (offset + count) (offset + count + length after) last
    (failures_rise (offset + count) after) (omega arith))
    ∙ append-nil mid in
    let start : offset ≡ offset + 0 = omega arith in
    ap (λ fs. map (from_offset offset) (test fs)) whole ∙ ap (map (from_offset offset)) only
    ∙ ap (λ i. map (from_offset offset) (failures_from i codes)) start ∙ rebased-failures offset 0 codes

-- ---- the law

closed-first : (a b : Bool) → (not a && b) ≡ true → a ≡ false
closed-first true b h = cc
closed-first false b h = refl

closed-rest : (a b : Bool) → (not a && b) ≡ true → b ≡ true
closed-rest true b h = cc
closed-rest false b h = h

abbrev after_count : State → ℕ → Facts → State
after_count state count facts = record { clock = clock_after state.clock count; facts = facts }

-- there are as many results as events
pub after_as_many : {Event : Type 0} (operation : Operation Event) (state : State) (events : List Event) →
    let made = events_results operation state.clock state.facts events in
    after_results state made ≡ after_count state (length events) made.facts
after_as_many operation state events =
    ap (λ count. after_count state count (events_results operation state.clock state.facts events).facts)
    (length-events_results operation state.clock state.facts events)

-- where an operation's packets are among all packets
pub record ArePacketsOf {Event : Type 0} (operation : Operation Event) (packet_of : List Event → Events) : Type 0 where
  pub results : (state : State) (events : List Event)
      → results_of state (packet_of events) ≡ events_results operation state.clock state.facts events
  pub after : (state : State) (events : List Event)
      → after_packet state (packet_of events) ≡ after_count state (length events)
      (events_results operation state.clock state.facts events).facts

module _ {Event : Type 0} (operation : Operation Event) (packet_of : List Event → Events)
    (are : ArePacketsOf operation packet_of) where
  abbrev results_in : State → List Event → Results
  results_in state events = events_results operation state.clock state.facts events

  in_range : (state : State) (events : List Event) → (after_packet state (packet_of events)).clock ≤ clock_max
  in_range state events =
      let e = ap (λ (s : State). s.clock) (are.after state events) in
      omega (arith, e)

  -- the results of a first packet and of those after it, which begin in the state that it leaves
  first_and_rest : (state : State) (packet : List Event) (packets : List (List Event)) → state.clock ≤ clock_max
      → is_last_linked operation.is_linked packet ≡ false →
      results_in state (events_in_turn (packet ∷ packets))
      ≡ then_results (results_in state packet) (results_in (after_packet state (packet_of packet))
      (events_in_turn packets))
  first_and_rest state packet packets h closed =
      events_results-append operation state.clock state.facts packet (events_in_turn packets) h closed
      ∙ ap (λ (s : State). then_results (results_in state packet) (results_in s (events_in_turn packets)))
      (sym (are.after state packet))

  -- after some results, which stand for the packets before
  cuts_after : (before : List ℕ) (state : State) (packets : List (List Event)) → state.clock ≤ clock_max
      → none_open operation.is_linked packets ≡ true →
      cuts (length before) packets (failures_from 0 (before ++ (results_in state (events_in_turn packets)).results))
      ≡ failures_each state (map packet_of packets)
  cuts_after before state [] h closed = refl
  cuts_after before state (packet ∷ packets) h closed =
      let first = results_in state packet in
      let next = after_packet state (packet_of packet) in
      let rest = results_in next (events_in_turn packets) in
      let count = length-events_results operation state.clock state.facts packet in
      let failures = failures_from 0 (before ++ (first.results ++ rest.results)) in
      let results = ap (λ (o : Results). o.results)
      (first_and_rest state packet packets h (closed-first (is_last_linked operation.is_linked packet)
      (none_open operation.is_linked packets) closed)) in
      let offset : length (before ++ first.results)
      ≡ length before + length packet =
      length-append before first.results ∙ ap (λ n. length before + n) count in
      let own : failures_within (length before) (length packet) failures ≡ failures_of state (packet_of packet) =
      ap (λ n. failures_within (length before) n failures) (sym count) ∙ cut-middle before first.results rest.results
      ∙ ap (λ (o : Results). failures_from 0 o.results) (sym (are.results state packet)) in
      let later : cuts (length before + length packet) packets failures ≡ failures_each next (map packet_of packets) =
      ap (λ n. cuts n packets failures) (sym offset)
      ∙ ap (λ codes. cuts (length (before ++ first.results)) packets (failures_from 0 codes))
      (sym (append_assoc before first.results rest.results))
      ∙ cuts_after (before ++ first.results) next packets (in_range state packet)
      (closed-rest (is_last_linked operation.is_linked packet)
      (none_open operation.is_linked packets) closed) in
      ap (λ codes. cuts (length before) (packet ∷ packets) (failures_from 0 (before ++ codes))) results
      ∙ ap (λ fs. fs ∷ cuts (length before + length packet) packets failures) own
      ∙ ap (λ fss. failures_of state (packet_of packet) ∷ fss) later

  state_after : (state : State) (packets : List (List Event)) → state.clock ≤ clock_max
      → none_open operation.is_linked packets ≡ true →
      after_packet state (packet_of (events_in_turn packets)) ≡ fold after_packet state (map packet_of packets)
  state_after state [] h closed =
      let same : clock_after state.clock 0 ≡ state.clock = omega arith in
      are.after state [] ∙ ap (λ c. record { clock = c; facts = state.facts }) same
  state_after state (packet ∷ packets) h closed =
      let next = after_packet state (packet_of packet) in
      let facts = ap (λ (o : Results). o.facts) (first_and_rest state packet packets h
      (closed-first (is_last_linked operation.is_linked packet)
      (none_open operation.is_linked packets) closed)) in
      let clock : clock_after state.clock (length (packet ++ events_in_turn packets))
      ≡ clock_after next.clock (length (events_in_turn packets)) =
      ap (clock_after state.clock) (length-append packet (events_in_turn packets))
      ∙ clock_after-more state.clock (length packet) (length (events_in_turn packets))
      ∙ ap (λ (s : State). clock_after s.clock (length (events_in_turn packets))) (sym (are.after state packet)) in
      let both : after_packet state (packet_of (events_in_turn (packet ∷ packets)))
      ≡ after_packet next (packet_of (events_in_turn packets)) =
      are.after state (events_in_turn (packet ∷ packets)) ∙ (λ i. record { clock = clock i; facts = facts i })
      ∙ sym (are.after next (events_in_turn packets)) in
      both ∙ state_after next packets (in_range state packet)
      (closed-rest (is_last_linked operation.is_linked packet) (none_open operation.is_linked packets) closed)

  rise : (state : State) (packets : List (List Event))
      → RiseWithin 0 (length (events_in_turn packets)) (failures_of state (packet_of (events_in_turn packets)))
  rise state packets =
      let results = (results_in state (events_in_turn packets)).results in
      let count : 0 + length results ≡ length (events_in_turn packets) = omega
      (arith, length-events_results operation state.clock state.facts (events_in_turn packets)) in
      subst (λ (o : Results). RiseWithin 0 (length (events_in_turn packets)) (failures_from 0 o.results))
      (sym (are.results state (events_in_turn packets)))
      (subst (λ high. RiseWithin 0 high (failures_from 0 results)) count (failures_rise 0 results))

  -- packets, none of them open
  pub joining : (state : State) (packets : List (List Event)) → state.clock ≤ clock_max
      → none_open operation.is_linked packets ≡ true → GiveAsEach packet_of state packets
  joining state packets h closed = record {
    rise = rise state packets;
    failures = ap (λ (o : Results). cuts 0 packets (failures_from 0 o.results))
        (are.results state (events_in_turn packets)) ∙ cuts_after [] state packets h closed;
    state_after = state_after state packets h closed;
  }

  -- one packet, open or not
  alone : (state : State) (packet : List Event) → GiveAsEach packet_of state (packet ∷ [])
  alone state packet =
      let results = (results_of state (packet_of packet)).results in
      let count : length packet ≡ length results =
      sym (ap (λ (o : Results). length o.results) (are.results state packet)
      ∙ length-events_results operation state.clock state.facts packet) in
      record {
        rise = rise state (packet ∷ []);
        failures =
            ap (λ events. failures_within 0 (length packet) (failures_of state (packet_of events))
            ∷ []) (append-nil packet)
            ∙ ap (λ n. failures_within 0 n (failures_from 0 results) ∷ []) count
            ∙ ap (λ codes. failures_within 0 (length results) (failures_from 0 codes) ∷ [])
            (sym (append-nil results)) ∙ ap (λ fs. fs ∷ []) (cut-middle [] results []);
        state_after = ap (λ events. after_packet state (packet_of events)) (append-nil packet);
      }

  pub joining_group : JoiningIsInvisible packet_of operation.is_linked
  joining_group state [] h group = joining state [] h refl
  joining_group state (packet ∷ []) h group = alone state packet
  joining_group state (packet ∷ next ∷ packets) h group =
      joining state (packet ∷ next ∷ packets) h (group (omega arith))
