-- How many events a packet has, and whether it is open; the third operation.
use Rattle.std.specs.Prelude.{ℕ, Bool, false, List, length}
use Rattle.tb_layout.specs.claim.Account.{is_linked as is_linked_account}
use Rattle.tb_layout.specs.claim.Transfer.{is_linked as is_linked_transfer}
use Rattle.tb_layout.specs.claim.Bytes.{number_at, has_flag}
use Rattle.tb_layout.specs.claim.Events.{Events, is_last_linked, Accounts, Transfers, Ids}

abbrev pub lookup_accounts : ℕ
lookup_accounts = 131

abbrev pub count_of : Events → ℕ
count_of (Accounts events) = length events
count_of (Transfers events) = length events
count_of (Ids ids) = length ids

-- whether the event of a chunk, an account or a transfer, is linked: both have their flags at byte 118
abbrev pub is_chunk_linked : List ℕ → Bool
is_chunk_linked chunk = has_flag (number_at chunk 118 2) 0

-- whether the packet is open; ids are never linked
abbrev pub is_open : Events → Bool
is_open (Accounts events) = is_last_linked is_linked_account events
is_open (Transfers events) = is_last_linked is_linked_transfer events
is_open (Ids ids) = false
