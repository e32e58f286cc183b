-- What the state machine works on.
use Rattle.std.specs.Prelude.{ℕ, ◌/◌, ◌==◌, Bool, false, List, [], ◌∷◌, length, map, if◌then◌else◌}
use Rattle.std.specs.Simd.{first_chunks}
use Rattle.tb_layout.specs.declared.account.Account.{Account}
use Rattle.tb_layout.specs.declared.transfer.Transfer.{Transfer}
use Rattle.tb_layout.specs.claim.Account.{account_of}
use Rattle.tb_layout.specs.claim.Transfer.{transfer_of}
use Rattle.tb_layout.specs.claim.Bytes.{little_endian}

abbrev pub create_accounts : ℕ
create_accounts = 129

abbrev pub create_transfers : ℕ
create_transfers = 130

abbrev pub chunks : ℕ → List ℕ → List (List ℕ)
chunks size body = first_chunks size (length body / size) body

abbrev pub accounts_of : List ℕ → List Account
accounts_of body = map account_of (chunks 128 body)

abbrev pub transfers_of : List ℕ → List Transfer
transfers_of body = map transfer_of (chunks 128 body)

abbrev pub ids_of : List ℕ → List ℕ
ids_of body = map little_endian (chunks 16 body)

-- a packet's events; those of any other operation, a lookup, are ids
pub data Events : Type 0 where
  Accounts : List Account → Events
  Transfers : List Transfer → Events
  Ids : List ℕ → Events

abbrev pub events_of : ℕ → List ℕ → Events
events_of operation body =
    if operation == create_accounts then Accounts (accounts_of body)
    else if operation == create_transfers then Transfers (transfers_of body)
    else Ids (ids_of body)

abbrev pub is_last_linked : {Event : Type 0} → (Event → Bool) → List Event → Bool
is_last_linked is_linked [] = false
is_last_linked is_linked (event ∷ []) = is_linked event
is_last_linked is_linked (event ∷ next ∷ events) = is_last_linked is_linked (next ∷ events)

-- numbered among its submitter's queued packets
pub data Input : Type 0 where
  Packet : (submitter : ℕ) → (number : ℕ) → Events → Input
  Pulse : (moment : ℕ) → Input
