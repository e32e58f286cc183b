-- The map of transfers, as two columns.
use Rattle.std.specs.Prelude.{ℕ, List, [], ◌∷◌, Option, Some, None}
use Rattle.tb_layout.specs.declared.transfer.Transfer.{Transfer}
use Rattle.tb_tables.specs.declared.row.Row.{Row}
use Rattle.tb_tables.specs.declared.status.Status.{Status}
use Rattle.tb_tables.specs.declared.status.Status.TheVariants as status
use Rattle.tb_tables.specs.declared.stored_status.StoredStatus.{StoredStatus}
use Rattle.tb_tables.specs.declared.stored_status.StoredStatus.TheVariants.{NotPending, Pending, Posted, Voided, Expired}
use Rattle.tb_tables.specs.declared.stored_transfer.StoredTransfer.{StoredTransfer}

-- the transfer that is stored under an id
abbrev pub transfer_under : ℕ → StoredTransfer → Transfer
transfer_under id stored =
    record {
      id = id;
      debit_account_id = stored.debit_account_id;
      credit_account_id = stored.credit_account_id;
      amount = stored.amount;
      pending_id = stored.pending_id;
      user_data_128 = stored.user_data_128;
      user_data_64 = stored.user_data_64;
      user_data_32 = stored.user_data_32;
      timeout = stored.timeout;
      ledger = stored.ledger;
      code = stored.code;
      flags = stored.flags;
      timestamp = stored.timestamp;
    }

-- only a pending transfer has a status
abbrev pub status_of_stored : StoredStatus → Option Status
status_of_stored NotPending = None
status_of_stored Pending = Some status.Pending
status_of_stored Posted = Some status.Posted
status_of_stored Voided = Some status.Voided
status_of_stored Expired = Some status.Expired

-- an entry, from its part of each column
abbrev pub entry_of : ℕ × StoredTransfer → StoredStatus → ℕ × Row
entry_of row stored = (row.0, record { transfer = transfer_under row.0 row.1; status = status_of_stored stored })

-- the entries, from the columns
abbrev pub entries_of : List (ℕ × StoredTransfer) → List StoredStatus → List (ℕ × Row)
entries_of [] statuses = []
entries_of (row ∷ rows) [] = []
entries_of (row ∷ rows) (status ∷ statuses) = entry_of row status ∷ entries_of rows statuses

-- the status of what was found
abbrev pub status_found : Option Row → Option Status
status_found None = None
status_found (Some row) = row.status
