-- A ledger whose journal is in memory, in a store, or nowhere: which ledgers it may be, and what a parcel makes of each.
use Rattle.std.specs.Prelude.{◌≡◌, ℕ, Bool, List, ◌++◌}
use Rattle.tb_work.specs.claim.Packet.{ReplyValue}
use Rattle.tb_core.specs.declared.outcomes.Outcomes.{Outcomes}
use Rattle.tb_core.specs.declared.parcel.Parcel.{Parcel}
use Rattle.tb_core.specs.claim.Decision.{Decision}
use Rattle.tb_core.specs.claim.BareLedger.{BareLedgerState, HasCommitted, with_journal}
use Rattle.tb_core.specs.claim.EndedRun.{IsPrefix}
use Rattle.tb_core.specs.claim.Front.{decisions_in}
use Rattle.tb_core.specs.claim.Grouping.{AreJoined, IsJoinedParcel}
use Rattle.tb_core.specs.claim.Journal.{LedgerState, groups_since}
use Rattle.tb_core.specs.claim.Ledger.{apply_result, apply_step}
use Rattle.tb_core.specs.claim.Run.{Commits, replies_in}

-- A parcel was applied to a ledger. Whatever it was when a run began, it still committed a prefix of what came, in groups
-- lawful under each limit that the parcels kept, and these are the replies.
pub record IsApplied (old : LedgerState) (handed : Parcel) (outcomes : Outcomes) (new : LedgerState) : Type 0 where
  pub refused : Bool
  pub step : apply_result new outcomes ≡ apply_step refused old handed
  pub commits : (start : LedgerState) (decisions : List Decision) (replies : List ReplyValue)
      → Commits start decisions old replies
      → Commits start (decisions ++ decisions_in handed) new (replies ++ replies_in outcomes)
  pub joined : (start : LedgerState) (limit : ℕ) → IsPrefix start.groups old.groups → IsJoinedParcel limit handed
      → AreJoined limit (groups_since start old) → AreJoined limit (groups_since start new)

-- whichever ledger it was, a parcel was applied to that, and it is the next
abbrev pub Applying : (LedgerState → Type 0) → Parcel → Outcomes → (LedgerState → Type 0) → Type 0
Applying was handed outcomes is =
    (old : LedgerState) → was old → (new : LedgerState) × is new × IsApplied old handed outcomes new

-- a bare ledger with a journal that it committed
pub record IsWithJournal (bare : BareLedgerState) (ledger : LedgerState) : Type 0 where
  pub same : ledger ≡ with_journal bare ledger.groups
  pub committed : HasCommitted bare ledger.groups
