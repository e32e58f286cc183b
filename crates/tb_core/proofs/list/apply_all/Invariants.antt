use Rattle.std.proofs.Common.{ℕ, List, ◌++◌, length}
use Rattle.tb_core.proofs.Words.{all_decisions_in, AreJoinedParcels, Decision, LedgerState, HasNotStopped}
use Rattle.tb_core.proofs.ItemList.{AreApplied}
use Rattle.tb_core.proofs.list.apply_all.Given as goal

abbrev pub invariant-loop-parcel : goal.invariant-loop-parcel
invariant-loop-parcel l =
    (start : LedgerState) (limit : ℕ) (sent : List Decision) → AreJoinedParcels limit l.fn.parcels.items
    → HasNotStopped start limit sent l.fn.ledger l.fn.replies.items →
    AreApplied start limit (sent ++ all_decisions_in l.fn.parcels.items) l.parcels.items l.ledger l.replies.items

abbrev pub decreases-loop-parcel : goal.decreases-loop-parcel
decreases-loop-parcel l = length l.parcels.items
