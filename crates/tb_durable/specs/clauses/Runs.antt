-- Runs over a ledger in a store, and over what is opened on its rows.
use Rattle.std.specs.Prelude.{◌≡◌, ◌⊎◌, Bool, true, false, List, [], ◌∷◌, ◌++◌}
use Rattle.sqlite_trees.specs.View.{View, IsClean}
use Rattle.tb_layout.specs.claim.Events.{Input}
use Rattle.tb_core.specs.claim.BareLedger.{BareLedgerState}
use Rattle.tb_core.specs.claim.EndedRun.{Run}
use Rattle.tb_core.specs.claim.Headline.{Headline}
use Rattle.tb_core.specs.claim.Journal.{LedgerState, inputs}
use Rattle.tb_core.specs.claim.TwoRuns.{AnswersStand, FollowsOn}
use Rattle.tb_durable.specs.claim.Durable.{IsKept, MayHave}

-- the rows have this ledger's journal: it hasn't stopped, and the disk has returned what was written
pub record ShowsJournal (view : View) (bare : BareLedgerState) (ledger : LedgerState) : Type 0 where
  pub kept : IsKept view bare ledger
  pub clean : IsClean view
  pub goes_on : bare.stopped ≡ false

-- A run ended with a ledger in a store. Another began with what was opened on the same rows, which a crash leaves (`is_on_disk`). Then
-- it follows the first, and both are as one (`two_runs_are_one`).
abbrev pub RunsFollow : Type 0
RunsFollow =
    (first second : Run) (old new : View) (before after : BareLedgerState) (start : LedgerState)
    → ShowsJournal old before first.ledger → ShowsJournal new after start → new.committed 0 ≡ old.committed 0
    → second.before ≡ inputs start → second.ledger.opening ≡ start.opening → FollowsOn first second

-- ---- after a stop

-- a run, with one group more in its ledger's journal
abbrev pub with_group : Run → List Input → Run
with_group run last = record run { ledger = record run.ledger { groups = run.ledger.groups ++ last ∷ [] } }

-- A run began with the journal that another ended with. If that one's ledger was in doubt, it may have begun with one group more. Either
-- way what the other answered is true of the journal at the end.
pub record GoesOnAfter (first second : Run) (in_doubt : Bool) : Type 0 where
  pub begins : FollowsOn first second ⊎ ((in_doubt ≡ true) × (last : List Input) × FollowsOn (with_group first last) second)
  pub stands : Headline first → Headline second → AnswersStand first second.ledger

-- A run ended with a ledger in a file, which may have stopped. Another began with what was opened on rows that a crash leaves of it
-- (`leaves` of `IsInFile`). Then it goes on after the first.
abbrev pub StoppedRunsFollow : Type 0
StoppedRunsFollow =
    (first second : Run) (in_doubt : Bool) (new : View) (after : BareLedgerState) (start : LedgerState)
    → MayHave in_doubt first.ledger (new.committed 0) → ShowsJournal new after start
    → second.before ≡ inputs start → second.ledger.opening ≡ start.opening → GoesOnAfter first second in_doubt
