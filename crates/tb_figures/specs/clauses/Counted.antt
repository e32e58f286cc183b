-- A ledger that counts what it commits.
use Rattle.std.specs.Prelude.{◌≡◌, ◌+◌, ℕ, List, ◌++◌, length}
use Rattle.tb_layout.specs.claim.Events.{Input}
use Rattle.tb_core.specs.claim.EndedRun.{IsPrefix}
use Rattle.tb_core.specs.claim.Grouping.{AreJoined}
use Rattle.tb_core.specs.claim.Journal.{LedgerState, groups_since, inputs_since}
use Rattle.tb_figures.specs.clauses.Counts.{AreCounts}
use Rattle.tb_figures.specs.declared.counts.Counts.{Counts}

-- The counts are those of a journal's last groups: as many as they say, and no others.
pub record HasLast (counts : Counts) (state : LedgerState) : Type 0 where
  pub before : List (List Input)
  pub last : List (List Input)
  pub groups : state.groups ≡ before ++ last
  pub counted : AreCounts last counts

-- a ledger may be this one, and the counts are those of its last groups
pub record IsCounted {L : Type 0} (is : L → LedgerState → Type 0) (ledger : L) (counts : Counts) (state : LedgerState) : Type 0 where
  pub own : is ledger state
  pub last : HasLast counts state

-- A ledger went on from `start`, by groups that are lawful, as the report on a run says. If as many packets and pulses are counted as it
-- gained places, the counts are those of all that it gained.
abbrev pub CountsAreExact : Type 0
CountsAreExact =
    (start state : LedgerState) (limit : ℕ) (counts : Counts) → IsPrefix start.groups state.groups →
    AreJoined limit (groups_since start state) → counts.packets + counts.pulses ≡ length (inputs_since start state) →
    HasLast counts state → AreCounts (groups_since start state) counts
