-- Chains of linked events.
use Rattle.std.specs.Prelude.{ℕ, ◌+◌, ◌-◌, ◌==◌, Bool, List, [], ◌∷◌, ◌++◌, length, take, replicate, if◌then◌else◌, min, nat_lt}
use Rattle.tb_layout.specs.claim.Events.{is_last_linked}
use Rattle.tb_tables.specs.claim.Facts.{Facts}
use Rattle.tb_machine.specs.declared.fault.ChainFault.{ChainFault}
use Rattle.tb_layout.specs.claim.Limits.{clock_max}
use Rattle.tb_layout.specs.declared.failure.Failure.{Failure}

abbrev pub clock_after : ℕ → ℕ → ℕ
clock_after clock count = min (clock + count) clock_max

abbrev pub linked_event_failed : ℕ
linked_event_failed = 1

abbrev pub linked_event_chain_open : ℕ
linked_event_chain_open = 2

abbrev pub clock_exhausted : ℕ
clock_exhausted = 201

-- `verdict` and `stored` are at a timestamp; `after_failure` are the facts that a failure with a code leaves
pub record Operation (Event : Type 0) : Type 0 where
  pub is_linked : Event → Bool
  pub verdict : Facts → ℕ → Event → ℕ
  pub stored : Facts → ℕ → Event → Facts
  pub after_failure : Facts → ℕ → Event → Facts

-- all events are stored, or one is the first that fails
pub data Attempt (Event : Type 0) : Type 0 where
  Stored : Facts → Attempt Event
  Failed : ChainFault Event → Attempt Event

-- a result for each event
pub record Results : Type 0 where
  pub results : List ℕ
  pub facts : Facts

module _ {Event : Type 0} where
  abbrev pub before_chains : Event → List (List Event) → List (List Event)
  before_chains event [] = (event ∷ []) ∷ []
  before_chains event (chain ∷ chains) = (event ∷ chain) ∷ chains

  -- an event that isn't linked ends its chain
  abbrev pub chains_of : (Event → Bool) → List Event → List (List Event)
  chains_of is_linked [] = []
  chains_of is_linked (event ∷ events) =
      if is_linked event then before_chains event (chains_of is_linked events)
      else (event ∷ []) ∷ chains_of is_linked events

  -- `count` events fail together; the first fault has its own code
  abbrev pub failed_results : ℕ → ChainFault Event → List ℕ
  failed_results count fault =
      replicate fault.index linked_event_failed ++ fault.code
      ∷ replicate (count - fault.index - 1) linked_event_failed

module _ {Event : Type 0} (operation : Operation Event) where
  -- an event is examined only if the clock can give it a timestamp
  abbrev pub verdict_after : ℕ → Facts → Event → ℕ
  verdict_after clock facts event =
      if nat_lt clock clock_max then operation.verdict facts (clock + 1) event else clock_exhausted

  -- events one after the other, each on the facts that those before it left
  abbrev pub try_events : ℕ → ℕ → Facts → List Event → Attempt Event
  try_events index clock facts [] = Stored facts
  try_events index clock facts (event ∷ events) =
      let code = verdict_after clock facts event in
      if code == 0 then try_events (index + 1) (clock + 1) (operation.stored facts (clock + 1) event) events
      else Failed (record { index = index; event = event; code = code })

  abbrev pub closed_chain : Facts → ℕ → Attempt Event → Results
  closed_chain facts count (Stored after) = record { results = replicate count 0; facts = after }
  closed_chain facts count (Failed fault) =
      record { results = failed_results count fault; facts = operation.after_failure facts fault.code fault.event }

  -- an open chain fails; its last event, after `count` others, isn't examined
  abbrev pub open_chain : Facts → ℕ → Attempt Event → Results
  open_chain facts count (Stored after) =
      record { results = replicate count linked_event_failed ++ linked_event_chain_open ∷ []; facts = facts }
  open_chain facts count (Failed fault) =
      record {
        results = failed_results count fault ++ linked_event_chain_open ∷ [];
        facts = operation.after_failure facts fault.code fault.event;
      }

  abbrev pub chain_results : ℕ → Facts → List Event → Results
  chain_results clock facts chain =
      let front = take (length chain - 1) chain in
      if is_last_linked operation.is_linked chain then
      open_chain facts (length front) (try_events 0 clock facts front)
      else closed_chain facts (length chain) (try_events 0 clock facts chain)

  abbrev pub chains_results : ℕ → Facts → List (List Event) → Results
  chains_results clock facts [] = record { results = []; facts = facts }
  chains_results clock facts (chain ∷ chains) =
      let first = chain_results clock facts chain in
      let next = chains_results (clock_after clock (length chain)) first.facts chains in
      record { results = first.results ++ next.results; facts = next.facts }

  abbrev pub events_results : ℕ → Facts → List Event → Results
  events_results clock facts events =
      chains_results clock facts (chains_of operation.is_linked events)

-- the results that aren't 0
abbrev pub failures_from : ℕ → List ℕ → List Failure
failures_from index [] = []
failures_from index (code ∷ codes) =
    if code == 0 then failures_from (index + 1) codes
    else record { index = index; code = code } ∷ failures_from (index + 1) codes
