-- The first fault of events, and how many results a chain has.
use Rattle.std.proofs.Common.{refl, ap, sym, subst, ◌∙◌, arith, ◌≡◌, ◌≢◌, ℕ, suc, ◌+◌, ◌-◌, ◌<◌, ◌≤◌, Bool, true, false, List, [], ◌∷◌, ◌++◌, length, replicate, eqb, Option, Some, None, map, take, length-append, length-take-le, ⊎_elim}
use Rattle.tb_machine.proofs.Words.{if◌then◌else◌, ◌==◌, is_some, length-map, length-replicate, eqb_tells, is_last_linked, Facts, ChainFault, Operation, Results, Attempt, Stored, Failed, verdict_after, try_events, closed_chain, open_chain, chain_results, facts_after_failure, attempt_of, closed_chain_results, open_chain_results, results_of_failed, LiesBelow, fault_as}

pub eqb-false : (a b : ℕ) → a ≢ b → (a == b) ≡ false
eqb-false a b ne =
    ⊎_elim (λ (y : (eqb a b ≡ true) × (a ≡ b)). absurd (ne y.1))
    (λ (n : (eqb a b ≡ false) × (a ≢ b)). n.0) (eqb_tells a b)

ne_from_eqb : (a b : ℕ) → (a == b) ≡ false → a ≢ b
ne_from_eqb a b h =
    ⊎_elim (λ (y : (eqb a b ≡ true) × (a ≡ b)). absurd (cc (h, y.0)))
    (λ (n : (eqb a b ≡ false) × (a ≢ b)). n.1) (eqb_tells a b)

-- a fault, if there is one, is below an index and has a code
abbrev IsBelow : {Event : Type 0} → ℕ → Attempt Event → Type 0
IsBelow end (Stored facts) = Unit {0}
IsBelow end (Failed fault) = (fault.index < end) × (fault.code ≢ 0)

chosen : {Event : Type 0} (is_ok : Bool) (end : ℕ) (fault : ChainFault Event) (rest : Attempt Event)
    → (fault.code == 0) ≡ is_ok → fault.index < end → IsBelow end rest
    → IsBelow end (if is_ok then rest else Failed fault)
chosen true end fault rest e within below = below
chosen false end fault rest e within below = (within, ne_from_eqb fault.code 0 e)

try_events-below : {Event : Type 0} (operation : Operation Event) (index clock : ℕ) (facts : Facts)
    (events : List Event) (end : ℕ) → index + length events ≤ end →
    IsBelow end (try_events operation index clock facts events)
try_events-below operation index clock facts [] end h = tt
try_events-below operation index clock facts (event ∷ events) end h =
    let code = verdict_after operation clock facts event in
    chosen (code == 0) end (record { index = index; event = event; code = code }) _ refl (omega arith)
    (try_events-below operation (index + 1) (clock + 1) (operation.stored facts (clock + 1) event) events end
    (omega arith))

lies_below : {Event : Type 0} (end : ℕ) (after : Facts) (fault : Option (ChainFault Event)) →
    IsBelow end (attempt_of after fault) → LiesBelow end fault
lies_below end after None below = tt
lies_below end after (Some fault) below = below

-- the same for events that chunks of bytes hold
pub fault-below : {Chunk Event : Type 0} (operation : Operation Event) (f : Chunk → Event) (clock : ℕ)
    (facts after : Facts) (chunks : List Chunk) (fault : Option (ChainFault Event)) →
    attempt_of after fault ≡ try_events operation 0 clock facts (map f chunks) → LiesBelow (length chunks) fault
fault-below operation f clock facts after chunks fault is =
    lies_below (length chunks) after fault (subst (IsBelow (length chunks)) (sym is)
    (try_events-below operation 0 clock facts (map f chunks) (length chunks) (omega (arith, length-map chunks f))))

-- ---- the results of a chain by its first fault

-- which is found with the event's chunk of bytes
pub closed_by : {Chunk Event : Type 0} (operation : Operation Event) (f : Chunk → Event) (clock : ℕ)
    (facts after : Facts) (chain : List Event) (fault : Option (ChainFault Chunk)) →
    attempt_of after (fault_as f fault) ≡ try_events operation 0 clock facts chain →
    closed_chain_results operation clock facts chain
    ≡ (if is_some fault then record {
      results = results_of_failed (length chain) (fault_as f fault);
      facts = facts_after_failure operation facts (fault_as f fault);
    } else record { results = replicate (length chain) 0; facts = after })
closed_by operation f clock facts after chain None is = ap (closed_chain operation facts (length chain)) (sym is)
closed_by operation f clock facts after chain (Some fault) is =
    ap (closed_chain operation facts (length chain)) (sym is)

pub open_failed : {Event : Type 0} (operation : Operation Event) (clock : ℕ) (facts after : Facts)
    (front : List Event) (fault : Option (ChainFault Event)) →
    attempt_of after fault ≡ try_events operation 0 clock facts front →
    open_chain_results operation clock facts front
    ≡ record { results = results_of_failed (length front) fault ++ 2 ∷ []; facts = facts_after_failure operation facts fault }
open_failed operation clock facts after front None is = ap (open_chain operation facts (length front)) (sym is)
open_failed operation clock facts after front (Some fault) is = ap (open_chain operation facts (length front)) (sym is)

-- ---- as many results as events

pub length-failed_results : {Event : Type 0} (count : ℕ) (fault : Option (ChainFault Event)) → LiesBelow count fault
    → length (results_of_failed count fault) ≡ count
length-failed_results count None below = length-replicate count 1
length-failed_results count (Some fault) below =
    let at = below.0 in
    length-append (replicate fault.index 1) (fault.code ∷ replicate (count - fault.index - 1) 1)
    ∙ (let e : length (replicate fault.index 1) + suc (length (replicate (count - fault.index - 1) 1))
    ≡ count =
    omega (
      arith,
      length-replicate {A = ℕ} fault.index 1,
      length-replicate {A = ℕ}
          (count - fault.index - 1) 1,
    ) in e)

length-front : {Event : Type 0} (is_linked : Event → Bool) (events : List Event)
    → is_last_linked is_linked events ≡ true → length (take (length events - 1) events) + 1 ≡ length events
length-front is_linked [] h = cc
length-front is_linked (event ∷ events) h =
    omega (arith, length-take-le (length (event ∷ events) - 1) (event ∷ events) (omega arith))

length-closed : {Event : Type 0} (operation : Operation Event) (facts : Facts) (count : ℕ) (attempt : Attempt Event)
    → IsBelow count attempt → length (closed_chain operation facts count attempt).results ≡ count
length-closed operation facts count (Stored after) below = length-replicate count 0
length-closed operation facts count (Failed fault) below = length-failed_results count (Some fault) below

length-open : {Event : Type 0} (operation : Operation Event) (facts : Facts) (count : ℕ) (attempt : Attempt Event)
    → IsBelow count attempt → length (open_chain operation facts count attempt).results ≡ count + 1
length-open operation facts count (Stored after) below =
    length-append (replicate count 1) (2 ∷ []) ∙ ap (λ n. n + 1) (length-replicate count 1)
length-open operation facts count (Failed fault) below =
    length-append (results_of_failed count (Some fault)) (2 ∷ [])
    ∙ ap (λ n. n + 1) (length-failed_results count (Some fault) below)

length-chosen : (b : Bool) (x y : Results) (n : ℕ) → (b ≡ true → length x.results ≡ n)
    → (b ≡ false → length y.results ≡ n) → length (if b then x else y).results ≡ n
length-chosen true x y n h k = h refl
length-chosen false x y n h k = k refl

-- a chain has one result for each event
pub length-chain_results : {Event : Type 0} (operation : Operation Event) (clock : ℕ) (facts : Facts)
    (chain : List Event) → length (chain_results operation clock facts chain).results ≡ length chain
length-chain_results operation clock facts chain =
    let front = take (length chain - 1) chain in
    length-chosen (is_last_linked operation.is_linked chain) _ _ (length chain)
    (λ open_one. length-open operation facts (length front) _
    (try_events-below operation 0 clock facts front (length front) (omega arith))
    ∙ length-front operation.is_linked chain open_one)
    (λ _. length-closed operation facts (length chain) _
    (try_events-below operation 0 clock facts chain (length chain) (omega arith)))
