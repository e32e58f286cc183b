-- What is looked up for a transfer before its checks.
use Rattle.std.specs.Prelude.{◌≡◌, true, false, IsSome}
use Rattle.tb_layout.specs.declared.transfer.Transfer.{Transfer}
use Rattle.tb_layout.specs.claim.Transfer.{is_resolving}
use Rattle.tb_tables.specs.claim.Facts.{Facts, account_with}
use Rattle.tb_tables.specs.clauses.Indices.{IsIndexOf, IsIndexOfTransfer}
use Rattle.tb_machine.specs.declared.prefetch.Sides.{Sides}
use Rattle.tb_machine.specs.declared.prefetch.Target.{Target}
use Rattle.tb_machine.specs.declared.prefetch.Target.TheVariants.{Between, Named}

-- the indices are those of the event's accounts; without the one to debit, the other decides nothing
pub record AreSides (facts : Facts) (event : Transfer) (sides : Sides) : Type 0 where
  pub debit : IsIndexOf facts event.debit_account_id sides.debit
  pub credit : IsSome (account_with facts event.debit_account_id) → IsIndexOf facts event.credit_account_id sides.credit

-- a plain or pending transfer acts on its accounts, and a post or a void on the transfer that it names
abbrev pub IsTarget : Facts → Transfer → Target → Type 0
IsTarget facts event (Between sides) = (is_resolving event ≡ false) × AreSides facts event sides
IsTarget facts event (Named pending) = (is_resolving event ≡ true) × IsIndexOfTransfer facts event.pending_id pending
