-- The status of a pending transfer.
use Rattle.std.specs.Prelude.{ℕ, ◌+◌, ◌*◌, Bool, true, false, not, ◌&&◌, ◌||◌, ◌==◌, nat_le, if◌then◌else◌, map, filter}
use Rattle.std.specs.List.{list_any}
use Rattle.tb_layout.specs.declared.transfer.Transfer.{Transfer}
use Rattle.tb_layout.specs.claim.Limits.{nanoseconds_per_second}
use Rattle.tb_layout.specs.claim.Transfer.{is_pending, is_post, is_void}
use Rattle.tb_tables.specs.claim.Facts.{Facts, is_expired}
use Rattle.tb_tables.specs.declared.status.Status.{Status}
use Rattle.tb_tables.specs.declared.status.Status.TheVariants.{Pending, Posted, Voided, Expired}

-- one that passes the test names this id
abbrev pub is_named_by : (Transfer → Bool) → Facts → ℕ → Bool
is_named_by test facts id = list_any (λ other. test other && (other.pending_id == id)) facts.transfers

abbrev pub status_of : Facts → ℕ → Status
status_of facts id =
    if is_named_by is_post facts id then Posted
    else if is_named_by is_void facts id then Voided
    else if is_expired facts id then Expired
    else Pending

abbrev pub is_unresolved : Status → Bool
is_unresolved Pending = true
is_unresolved status = false

-- a pending transfer whose status is Pending reserves its amount
abbrev pub is_reserving : Facts → Transfer → Bool
is_reserving facts transfer = is_pending transfer && is_unresolved (status_of facts transfer.id)

-- the timeout is in seconds
abbrev pub expires_at : Transfer → ℕ
expires_at transfer = transfer.timestamp + transfer.timeout * nanoseconds_per_second

abbrev pub is_due : ℕ → Transfer → Bool
is_due clock transfer = not (transfer.timeout == 0) && nat_le (expires_at transfer) clock

-- each transfer that reserves its amount and is due expires
abbrev pub expire_due : ℕ → Facts → Facts
expire_due clock facts =
    let expires : Transfer → Bool = λ transfer. is_expired facts transfer.id
    || (is_reserving facts transfer && is_due clock transfer) in
    record facts { expired = map (λ (transfer : Transfer). transfer.id) (filter expires facts.transfers) }
