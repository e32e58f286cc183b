-- The parts of a batch that the machine took.
use Rattle.std.specs.Prelude.{◌≡◌, ◌≤◌, ℕ, ◌==◌, true, false, List, map, if◌then◌else◌}
use Rattle.tb_layout.specs.claim.EventCounts.{lookup_accounts}
use Rattle.tb_layout.specs.declared.account.Account.{Account}
use Rattle.tb_layout.specs.declared.failure.Failure.{Failure}
use Rattle.tb_layout.specs.claim.Events.{events_of, ids_of}
use Rattle.tb_layout.specs.claim.Limits.{clock_max}
use Rattle.tb_machine.specs.claim.Replay.{State, failures_of, accounts_found}
use Rattle.tb_work.specs.claim.Job.{stub_of}
use Rattle.tb_layout.specs.declared.answer.Answer.{Answer}
use Rattle.tb_layout.specs.declared.answer.Answer.TheVariants.{Failures, Accounts}
use Rattle.tb_batch.specs.claim.Batch.{body_of, IsLawful}
use Rattle.tb_batch.specs.declared.parts.Parts.{Parts}

-- accounts are the answer to a lookup, failures to all else
abbrev pub answer_in : ℕ → List Failure → List Account → Answer
answer_in operation failures accounts = if operation == lookup_accounts then Accounts accounts else Failures failures

-- the parts are those of a batch, with the answer to all of its events in a state
pub record AreAnswered (state : State) (parts : Parts) : Type 0 where
  pub in_range : state.clock ≤ clock_max
  pub lawful : IsLawful parts.operation parts.jobs.items
  pub stubs : parts.stubs.items ≡ map stub_of parts.jobs.items
  pub body : parts.body.items ≡ body_of parts.jobs.items
  pub failures : (parts.operation == lookup_accounts) ≡ false
      → parts.failures.items ≡ failures_of state (events_of parts.operation parts.body.items)
  pub accounts : (parts.operation == lookup_accounts) ≡ true
      → parts.accounts.items ≡ accounts_found state.facts (ids_of parts.body.items)
