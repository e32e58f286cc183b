-- The first chain of some events, and the rest.
use Rattle.std.proofs.Common.{refl, sym, ap, ◌∙◌, arith, ◌≡◌, ℕ, suc, ◌+◌, ◌-◌, ◌<◌, ◌≤◌, Bool, true, false, List, [], ◌∷◌, ◌++◌, length, take, drop, get_or, map, append_assoc, length-take-le, length-drop, Vec, vec_len}
use Rattle.tb_machine.proofs.Words.{if◌then◌else◌, HasCommitted, Global, History, length-map, take-map, take_rest, drop-map, drop-drop, Failure, is_last_linked, Facts, Operation, Results, before_chains, chains_of, chain_results, chains_results, clock_after, events_results, failures_from, open_chain_results, closed_chain_results, first_chain_length, then_results}
use Rattle.tb_machine.proofs.Faults.{length-chain_results}
use Rattle.tb_machine.proofs.Failures.{failures_from-append, few_more}

-- ---- the last event decides whether a chain is open

last_linked : {Chunk Event : Type 0} (is_linked : Event → Bool) (f : Chunk → Event) (chunks : List Chunk) (d : Chunk)
    → 0 < length chunks →
    is_last_linked is_linked (map f chunks) ≡ is_linked (f (get_or chunks (length chunks - 1) d))
last_linked is_linked f [] d some = absurd (omega arith)
last_linked is_linked f (chunk ∷ []) d some = refl
last_linked is_linked f (chunk ∷ next ∷ chunks) d some =
    last_linked is_linked f (next ∷ chunks) d (omega arith)
    ∙ (let e : suc (length (next ∷ chunks) - 1) ≡ length (chunk ∷ next ∷ chunks) - 1 = omega arith in ap
    (λ k. is_linked (f (get_or (chunk ∷ next ∷ chunks) k d))) e)

map-front : {Chunk Event : Type 0} (f : Chunk → Event) (chunks : List Chunk)
    → take (length (map f chunks) - 1) (map f chunks) ≡ map f (take (length chunks - 1) chunks)
map-front f chunks = ap (λ n. take (n - 1) (map f chunks)) (length-map chunks f) ∙ take-map f (length chunks - 1) chunks

-- the results of a chain whose events chunks of bytes hold, by whether the last one is linked
pub chain_results-chunks : {Chunk Event : Type 0} (operation : Operation Event) (f : Chunk → Event) (clock : ℕ)
    (facts : Facts) (chunks : List Chunk) (d : Chunk) → 0 < length chunks →
    {b : Bool} → operation.is_linked (f (get_or chunks (length chunks - 1) d)) ≡ b →
    chain_results operation clock facts (map f chunks)
    ≡ (if b then open_chain_results operation clock facts (map f (take (length chunks - 1) chunks))
    else closed_chain_results operation clock facts (map f chunks))
chain_results-chunks operation f clock facts chunks d some is =
    rw (last_linked operation.is_linked f chunks d some, map-front f chunks, is)

-- ---- cutting off the first chain

first_alone : {Event : Type 0} (is_linked : Event → Bool) (b : Bool) (event : Event) →
    (if b then (event ∷ []) ∷ [] else (event ∷ []) ∷ [])
    ≡ take (if b then 1 else 1) (event ∷ []) ∷ chains_of is_linked (drop (if b then 1 else 1) (event ∷ []))
first_alone is_linked true event = refl
first_alone is_linked false event = refl

first_before : {Event : Type 0} (is_linked : Event → Bool) (n : ℕ) (b : Bool) (event : Event) (events : List Event)
    → chains_of is_linked events ≡ take n events ∷ chains_of is_linked (drop n events) →
    (if b then before_chains event (chains_of is_linked events) else (event ∷ []) ∷ chains_of is_linked events)
    ≡ take (if b then suc n else 1) (event ∷ events)
    ∷ chains_of is_linked (drop (if b then suc n else 1) (event ∷ events))
first_before is_linked n true event events h = ap (before_chains event) h
first_before is_linked n false event events h = refl

chains_of-first : {Event : Type 0} (is_linked : Event → Bool) (event : Event) (events : List Event) →
    let n = first_chain_length is_linked (event ∷ events) in chains_of is_linked (event ∷ events)
    ≡ take n (event ∷ events) ∷ chains_of is_linked (drop n (event ∷ events))
chains_of-first is_linked event [] = first_alone is_linked (is_linked event) event
chains_of-first is_linked event (next ∷ events) =
    first_before is_linked (first_chain_length is_linked (next ∷ events)) (is_linked event) event (next ∷ events)
    (chains_of-first is_linked next events)

if_le : (b : Bool) (m n k : ℕ) → m ≤ k → n ≤ k → (if b then m else n) ≤ k
if_le true m n k h g = h
if_le false m n k h g = g

pub first_chain_length-le : {Event : Type 0} (is_linked : Event → Bool) (events : List Event)
    → first_chain_length is_linked events ≤ length events
first_chain_length-le is_linked [] = omega arith
first_chain_length-le is_linked (event ∷ events) =
    if_le (is_linked event) (suc (first_chain_length is_linked events)) 1 (length (event ∷ events))
    (omega (arith, first_chain_length-le is_linked events)) (omega arith)

-- the results of some events are those of their first chain and then of the rest
events_results-first : {Event : Type 0} (operation : Operation Event) (clock : ℕ) (facts : Facts)
    (events : List Event) (n : ℕ) → 0 < length events → n ≡ first_chain_length operation.is_linked events →
    let first = chain_results operation clock facts (take n events) in events_results operation clock facts events
    ≡ then_results first (events_results operation (clock_after clock n) first.facts (drop n events))
events_results-first operation clock facts [] n h is = absurd (omega arith)
events_results-first operation clock facts (event ∷ events) n h is =
    let all = event ∷ events in
    let first = chain_results operation clock facts (take n all) in
    let long : length (take n all) ≡ n = length-take-le n all
    (omega (arith, is, first_chain_length-le operation.is_linked all)) in
    ap (chains_results operation clock facts) (chains_of-first operation.is_linked event events
    ∙ ap (λ k. take k all ∷ chains_of operation.is_linked (drop k all)) (sym is))
    ∙ ap (λ k. then_results first (events_results operation (clock_after clock k) first.facts (drop n all))) long

-- ---- the chains before event number i were taken, and the remainder decides the whole

pub record IsLeft {Event : Type 0} (operation : Operation Event) (whole : Results) (clock : ℕ) (facts : Facts)
    (index : ℕ) (rest : List Event) (before out : Vec Failure Global) : Type 0 where
  pub few : vec_len out ≤ vec_len before + index
  pub facts_after : whole.facts ≡ (events_results operation clock facts rest).facts
  pub failures : before.items ++ failures_from 0 whole.results
      ≡ out.items ++ failures_from index (events_results operation clock facts rest).results

left_more : {Event : Type 0} {operation : Operation Event} {whole : Results} {clock index n : ℕ} {facts : Facts}
    {tables : History} {rest : List Event} {before out more : Vec Failure Global} →
    0 < length rest → n ≡ first_chain_length operation.is_linked rest →
    HasCommitted index (chain_results operation clock facts (take n rest)) tables out more →
    IsLeft operation whole clock facts index rest before out
    → IsLeft operation whole (clock_after clock n) tables.now (index + n) (drop n rest) before more
left_more {operation} {whole} {clock} {index} {n} {facts} {tables} {rest} {before} {out} {more} some is committed left =
    let first = chain_results operation clock facts (take n rest) in
    let later = events_results operation (clock_after clock n) tables.now (drop n rest) in
    let fits : n ≤ length rest = omega (arith, is, first_chain_length-le operation.is_linked rest) in
    let both : events_results operation clock facts rest ≡ then_results first later =
    events_results-first operation clock facts rest n some is
    ∙ ap (λ f. then_results first (events_results operation (clock_after clock n) f (drop n rest)))
    (sym committed.facts) in
    let size : length first.results ≡ n = length-chain_results operation clock facts (take n rest)
    ∙ length-take-le n rest fits in
    record {
      few = omega (arith, left.few, size, few_more committed);
      facts_after = left.facts_after ∙ ap (λ (o : Results). o.facts) both;
      failures =
          left.failures ∙ ap (λ (o : Results). out.items ++ failures_from index o.results) both
          ∙ ap (λ fs. out.items ++ fs) (failures_from-append index first.results later.results)
          ∙ sym (append_assoc out.items (failures_from index first.results)
          (failures_from (index + length first.results) later.results))
          ∙ ap (λ fs. fs ++ failures_from (index + length first.results) later.results) (sym committed.failures)
          ∙ ap (λ k. more.items ++ failures_from (index + k) later.results) size;
    }

-- the same for events that chunks of bytes hold
pub left_more_chunks : {Chunk Event : Type 0} {operation : Operation Event} {whole : Results}
    {clock after index n : ℕ} {facts : Facts} {tables : History}
    {before out more : Vec Failure Global} (f : Chunk → Event) (chunks : List Chunk) →
    let rest = take (length chunks - index) (drop index chunks) in
    after ≡ clock_after clock n → index < length chunks → n ≡ first_chain_length operation.is_linked (map f rest) →
    HasCommitted index (chain_results operation clock facts (map f (take n rest))) tables out more →
    IsLeft operation whole clock facts index (map f (drop index chunks)) before out
    → IsLeft operation whole after tables.now (index + n) (map f (drop (index + n) chunks)) before more
left_more_chunks {index = index} {n = n} f chunks after_is h is committed left =
    let events = map f (drop index chunks) in
    let some : 0 < length events = omega (arith, length-map (drop index chunks) f, length-drop index chunks) in
    let dropped : drop n events ≡ map f (drop (index + n) chunks) =
    drop-map f n (drop index chunks) ∙ ap (map f) (drop-drop n index chunks) in
    rw (after_is, ← dropped)
    (left_more some (rw take_rest at is) (rw (take_rest, ← take-map) at committed) left)
