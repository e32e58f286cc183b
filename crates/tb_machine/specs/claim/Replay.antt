-- The state machine.
use Rattle.std.specs.Prelude.{ℕ, max, List, [], fold, length}
use Rattle.std.specs.List.{filter_map}
use Rattle.tb_layout.specs.declared.account.Account.{Account}
use Rattle.tb_layout.specs.declared.failure.Failure.{Failure}
use Rattle.tb_layout.specs.declared.answer.Answer.{Answer}
use Rattle.tb_layout.specs.claim.Events.{Events, Accounts, Transfers, Ids, Input, Packet, Pulse}
use Rattle.tb_tables.specs.claim.Facts.{Facts, no_facts}
use Rattle.tb_tables.specs.claim.Status.{expire_due}
use Rattle.tb_tables.specs.claim.Balances.{balanced_account}
use Rattle.tb_machine.specs.claim.Chain.{Results, events_results, failures_from, clock_after}
use Rattle.tb_machine.specs.claim.Operations.{accounts_operation, transfers_operation}
use Rattle.tb_layout.specs.declared.answer.Answer.TheVariants as answer

pub record State : Type 0 where
  pub clock : ℕ
  pub facts : Facts

abbrev pub opening : ℕ → State
opening clock = record { clock = clock; facts = no_facts }

-- a lookup has no results
abbrev pub results_of : State → Events → Results
results_of state (Accounts events) = events_results accounts_operation state.clock state.facts events
results_of state (Transfers events) = events_results transfers_operation state.clock state.facts events
results_of state (Ids ids) = record { results = []; facts = state.facts }

abbrev pub failures_of : State → Events → List Failure
failures_of state events = failures_from 0 (results_of state events).results

abbrev pub accounts_found : Facts → List ℕ → List Account
accounts_found facts ids = filter_map (balanced_account facts) ids

abbrev pub answer_of : State → Events → Answer
answer_of state (Ids ids) = answer.Accounts (accounts_found state.facts ids)
answer_of state events = answer.Failures (failures_of state events)

-- each event raises the clock, if it can, whatever its result
abbrev pub after_packet : State → Events → State
after_packet state (Ids ids) = state
after_packet state events =
    let made = results_of state events in
    record { clock = clock_after state.clock (length made.results); facts = made.facts }

-- what is due at that clock expires
abbrev pub after_pulse : State → ℕ → State
after_pulse state moment =
    record { clock = max state.clock moment; facts = expire_due (max state.clock moment) state.facts }

abbrev pub after_input : State → Input → State
after_input state (Packet submitter number events) = after_packet state events
after_input state (Pulse moment) = after_pulse state moment

abbrev pub replay : ℕ → List Input → State
replay clock inputs = fold after_input (opening clock) inputs
