-- Words of the functions that take a packet's chains one by one.
use Rattle.std.specs.Prelude.{◌≢◌, ◌<◌, ℕ, suc, Bool, List, [], ◌∷◌, ◌++◌, length, Option, Some, None, if◌then◌else◌}
use Rattle.tb_tables.specs.claim.Facts.{Facts, transfer_with}
use Rattle.tb_machine.specs.declared.fault.ChainFault.{ChainFault}
use Rattle.tb_machine.specs.claim.Chain.{Results, clock_after}
use Rattle.tb_layout.specs.declared.transfer.Transfer.{Transfer}
use Rattle.tb_layout.specs.claim.Transfer.{is_resolving}
use Rattle.tb_layout.specs.declared.transfer_code.TransferCode.{TransferCode}
use Rattle.tb_layout.specs.declared.transfer_code.TransferCode.TheVariants.{FlagsAreMutuallyExclusive}
use Rattle.tb_layout.specs.declared.account.Account.{Account}
use Rattle.tb_layout.specs.declared.account_code.AccountCode.{AccountCode}
use Rattle.tb_machine.specs.claim.AccountVerdict as account
use Rattle.tb_machine.specs.claim.Checks.{first_row}
use Rattle.tb_machine.specs.claim.Replay.{State}
use Rattle.tb_machine.specs.claim.TransferVerdict as transfer

-- how many events the first chain has
abbrev pub first_chain_length : {Event : Type 0} → (Event → Bool) → List Event → ℕ
first_chain_length is_linked [] = 0
first_chain_length is_linked (event ∷ events) = if is_linked event then suc (first_chain_length is_linked events) else 1

-- a fault, if there is one, is below an index and has a code
abbrev pub LiesBelow : {Event : Type 0} → ℕ → Option (ChainFault Event) → Type 0
LiesBelow end None = Unit {0}
LiesBelow end (Some fault) = (fault.index < end) × (fault.code ≢ 0)

-- a fault, if there is one, of what its event becomes
abbrev pub fault_as : {A B : Type 0} → (A → B) → Option (ChainFault A) → Option (ChainFault B)
fault_as become None = None
fault_as become (Some fault) = Some (record { index = fault.index; event = become fault.event; code = fault.code })

-- the state once as many events had these results
abbrev pub after_results : State → Results → State
after_results state made = record { clock = clock_after state.clock (length made.results); facts = made.facts }

-- the results of some events, and then of others on what they left
abbrev pub then_results : Results → Results → Results
then_results first next = record { results = first.results ++ next.results; facts = next.facts }

-- the verdict on an event, if no account has its id
abbrev pub new_account_verdict : Account → AccountCode
new_account_verdict event = first_row (account.event_checks event) (account.against_id None event)

-- the verdict on a transfer that passes the checks of any event
abbrev pub transfer_id_verdict : Facts → ℕ → Transfer → TransferCode
transfer_id_verdict facts timestamp event =
    transfer.against_id facts timestamp (transfer_with facts event.id) event

-- the verdict on a transfer whose id is that of no transfer and didn't fail
abbrev pub unfailed_verdict : Facts → ℕ → Transfer → TransferCode
unfailed_verdict facts timestamp event =
    if transfer.has_exclusive_flags event then FlagsAreMutuallyExclusive
    else if is_resolving event then transfer.resolving_verdict facts timestamp event
    else transfer.creating_verdict facts timestamp event
