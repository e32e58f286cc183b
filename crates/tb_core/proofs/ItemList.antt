-- A list of items on its way through a front and a ledger.
use Rattle.tb_core.proofs.Words.{◌≡◌, ℕ, List, ◌++◌, ReplyValue, Item, Parcel, FrontState, all_decisions_in, held_by, AreJoinedParcels, LedgerState, Decision, HasNotStopped, IsRunning, IsDrained}

-- the parcels with these decisions, all before the rest, were applied
pub record AreApplied (start : LedgerState) (limit : ℕ) (decisions : List Decision) (rest : List Parcel) (ledger : LedgerState)
    (replies : List ReplyValue) : Type 0 where
  pub done : List Decision
  pub parts : done ++ all_decisions_in rest ≡ decisions
  pub joined : AreJoinedParcels limit rest
  pub on : HasNotStopped start limit done ledger replies

-- the items in front of the rest were taken
pub record IsUnderWay (start : LedgerState) (limit : ℕ) (items rest : List Item) (front : FrontState) (ledger : LedgerState)
    (replies : List ReplyValue) : Type 0 where
  pub done : List Item
  pub parts : items ≡ done ++ rest
  pub run : IsRunning start limit done front ledger replies

-- what was held is applied too
pub through : {start : LedgerState} {limit : ℕ} {items : List Item} {front : FrontState} {ledger now : LedgerState}
    {replies given : List ReplyValue} (run : IsRunning start limit items front ledger replies) →
    HasNotStopped start limit (run.sent ++ held_by front) now given → IsDrained start limit items now given
through {front} run on = record {
  ran = record {
    closed = front.closed;
    stopped = front.stopped;
    decisions = run.sent ++ held_by front;
    passed = run.passed;
    commits = on.commits;
  };
  unmarked = on.unmarked;
  unstopped = run.unstopped;
  joined = on.joined;
}
