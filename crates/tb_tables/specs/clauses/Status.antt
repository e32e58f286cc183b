-- Whether a transfer is resolved, and the status that one with an id has.
use Rattle.std.specs.Prelude.{ℕ, Bool, if◌then◌else◌, Option, Some, None}
use Rattle.tb_layout.specs.declared.transfer.Transfer.{Transfer}
use Rattle.tb_layout.specs.claim.Transfer.{is_pending, is_resolving}
use Rattle.tb_tables.specs.claim.Facts.{Facts, transfer_with}
use Rattle.tb_tables.specs.declared.status.Status.{Status}
use Rattle.tb_tables.specs.claim.Status.{status_of, is_named_by}

abbrev pub is_resolved : Facts → ℕ → Bool
is_resolved facts id = is_named_by is_resolving facts id

-- only a pending transfer has a status
abbrev pub status_in : Facts → Transfer → Option Status
status_in facts transfer = if is_pending transfer then Some (status_of facts transfer.id) else None

abbrev pub status_if_pending : Facts → Option Transfer → Option Status
status_if_pending facts None = None
status_if_pending facts (Some transfer) = status_in facts transfer

-- the status of the transfer with this id
abbrev pub status_with : Facts → ℕ → Option Status
status_with facts id = status_if_pending facts (transfer_with facts id)
