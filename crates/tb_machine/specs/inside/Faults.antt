-- The first fault of a chain apart from the facts that its events leave, as the code finds them.
use Rattle.std.specs.Prelude.{ℕ, List, length, replicate, Option, Some, None}
use Rattle.tb_tables.specs.claim.Facts.{Facts}
use Rattle.tb_machine.specs.declared.fault.ChainFault.{ChainFault}
use Rattle.tb_machine.specs.claim.Chain.{Operation, Results, Attempt, Stored, Failed, linked_event_failed, failed_results, try_events, closed_chain, open_chain}

abbrev pub results_of_failed : {Event : Type 0} → ℕ → Option (ChainFault Event) → List ℕ
results_of_failed count None = replicate count linked_event_failed
results_of_failed count (Some fault) = failed_results count fault

-- with the first fault, if there is one, and otherwise the facts that all events left
abbrev pub attempt_of : {Event : Type 0} → Facts → Option (ChainFault Event) → Attempt Event
attempt_of facts None = Stored facts
attempt_of facts (Some fault) = Failed fault

module _ {Event : Type 0} (operation : Operation Event) where
  abbrev pub facts_after_failure : Facts → Option (ChainFault Event) → Facts
  facts_after_failure facts None = facts
  facts_after_failure facts (Some fault) = operation.after_failure facts fault.code fault.event

  -- the results of a chain whose last event isn't linked
  abbrev pub closed_chain_results : ℕ → Facts → List Event → Results
  closed_chain_results clock facts chain =
      closed_chain operation facts (length chain) (try_events operation 0 clock facts chain)

  -- the results of a chain whose last event is linked, from the events before that
  abbrev pub open_chain_results : ℕ → Facts → List Event → Results
  open_chain_results clock facts front =
      open_chain operation facts (length front) (try_events operation 0 clock facts front)
