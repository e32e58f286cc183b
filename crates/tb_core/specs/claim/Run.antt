-- What a front and a ledger did, also if an allocation failed; batches are left out.
use Rattle.std.specs.Prelude.{◌≡◌, ◌<◌, ℕ, Bool, false, List, [], ◌∷◌, ◌++◌, length}
use Rattle.tb_layout.specs.claim.Events.{Input}
use Rattle.tb_machine.specs.claim.Replay.{replay}
use Rattle.tb_work.specs.claim.Ahead.{ahead, items_in}
use Rattle.tb_work.specs.claim.Queue.{IsQueueOf}
use Rattle.tb_work.specs.claim.Packet.{ReplyValue}
use Rattle.tb_work.specs.declared.item.Item.{Item}
use Rattle.tb_batch.specs.claim.Batch.{AreAdmitted}
use Rattle.tb_core.specs.declared.outcomes.Outcomes.{Outcomes}
use Rattle.tb_core.specs.declared.outcomes.Outcomes.TheVariants.{Cut, One, Nothing, Last}
use Rattle.tb_core.specs.declared.parcel.Parcel.{Parcel}
use Rattle.tb_core.specs.declared.parcel.Parcel.TheVariants as parcel
use Rattle.tb_core.specs.claim.Decision.{inputs_in, replies_from, Decision, AreDecisions}
use Rattle.tb_core.specs.claim.Due.{all_due, replies_to}
use Rattle.tb_core.specs.claim.Front.{FrontState, held_by}
use Rattle.tb_core.specs.claim.Grouping.{AreJoined}
use Rattle.tb_core.specs.claim.Journal.{LedgerState, inputs, groups_since, inputs_since}
use Rattle.tb_core.specs.claim.EndedRun.{Run, IsPrefix}
use Rattle.tb_core.specs.claim.Report.{LawfulReport}

-- the replies that a parcel's outcomes contain
abbrev pub replies_in : Outcomes → List ReplyValue
replies_in (Cut replies) = replies
replies_in (One reply) = reply ∷ []
replies_in Nothing = []
replies_in Last = []

-- a batch has packets, and these were admitted
abbrev pub HasPackets : Parcel → Type 0
HasPackets (parcel.Batch jobs) = (0 < length jobs) × AreAdmitted jobs
HasPackets other = Unit {0}

-- Since it was `start` a ledger took these decisions: it added the first of them to its journal, and all of them exactly if
-- it hasn't stopped; and these are the replies. Their places count on from those of `start`.
pub record Commits (start : LedgerState) (decisions : List Decision) (ledger : LedgerState)
    (replies : List ReplyValue) : Type 0 where
  pub from : ledger.opening ≡ start.opening
  pub continues : IsPrefix start.groups ledger.groups
  pub remainder : List Input
  pub committed : inputs ledger ++ remainder ≡ inputs start ++ inputs_in decisions
  pub whole : ledger.stopped ≡ false → remainder ≡ []
  pub unstopped : remainder ≡ [] → ledger.stopped ≡ false
  pub state : ledger.state ≡ replay start.opening (inputs ledger)
  pub replied : replies ≡ replies_from start.opening (inputs ledger) (length (inputs start)) decisions

-- a front took these items and a ledger all parcels that the front yielded; these are the replies, in order
pub record Ran (start : LedgerState) (items : List Item) (ledger : LedgerState)
    (replies : List ReplyValue) : Type 0 where
  pub closed : Bool
  pub stopped : Bool
  pub decisions : List Decision
  pub passed : AreDecisions items closed stopped decisions
  pub commits : Commits start decisions ledger replies

-- a ledger that took these decisions and hasn't stopped, the groups that it added lawful under a limit
pub record HasNotStopped (start : LedgerState) (limit : ℕ) (decisions : List Decision) (ledger : LedgerState)
    (replies : List ReplyValue) : Type 0 where
  pub commits : Commits start decisions ledger replies
  pub unmarked : ledger.stopped ≡ false
  pub joined : AreJoined limit (groups_since start ledger)

-- a front and a ledger took these items, and what the front holds is all that isn't answered; neither has stopped
pub record IsRunning (start : LedgerState) (limit : ℕ) (items : List Item) (front : FrontState) (ledger : LedgerState)
    (replies : List ReplyValue) : Type 0 where
  pub sent : List Decision
  pub under : front.limit ≡ limit
  pub passed : AreDecisions items front.closed front.stopped (sent ++ held_by front)
  pub goes_on : HasNotStopped start limit sent ledger replies
  pub unstopped : front.stopped ≡ false

-- a ledger took all that a front made of these items, and nothing is held any more
pub record IsDrained (start : LedgerState) (limit : ℕ) (items : List Item) (ledger : LedgerState)
    (replies : List ReplyValue) : Type 0 where
  pub ran : Ran start items ledger replies
  pub unmarked : ledger.stopped ≡ false
  pub unstopped : ran.stopped ≡ false
  pub joined : AreJoined limit (groups_since start ledger)

-- The report on a run is lawful if a front took all of its queue, and a ledger, since it was `start`, all that the front
-- yielded. Each submitter got the replies with its number. An allocation may have failed.
abbrev pub RunIsLawful : Type 0
RunIsLawful =
    (run : Run) (start : LedgerState) (answers : List ReplyValue) → IsQueueOf run.submitters run.queue run.queued →
    run.before ≡ inputs start → Ran start (items_in run.queue) run.ledger answers
    → ((submitter : ℕ) → submitter < run.submitters → run.replies submitter ≡ replies_to answers submitter)
    → LawfulReport run

-- From a clock on all packets and pulses ahead of the Close were committed, and each packet has its reply, in order.
pub record IsListed (clock : ℕ) (items : List Item) (ledger : LedgerState) (replies : List ReplyValue) : Type 0 where
  pub from : ledger.opening ≡ clock
  pub goes_on : ledger.stopped ≡ false
  pub committed : inputs ledger ≡ ahead items
  pub replied : replies ≡ all_due clock 0 items (ahead items)

-- A front made decisions on these items, a ledger took the first of them since it was `start`, and the rest is on the way.
-- What was committed since is a prefix of what is ahead, and the replies are a prefix of those due: all of them if nothing is
-- on the way. Unless one of both stopped, all that is ahead is committed or on the way.
pub record IsPartial (start : LedgerState) (items : List Item) (stopped : Bool) (ledger : LedgerState)
    (answers : List ReplyValue) (way : List Decision) : Type 0 where
  pub committed : IsPrefix (inputs_since start ledger) (ahead items)
  pub due : IsPrefix answers (all_due start.opening (length (inputs start)) items (inputs ledger))
  pub replied : way ≡ [] → answers ≡ all_due start.opening (length (inputs start)) items (inputs ledger)
  pub whole : stopped ≡ false → ledger.stopped ≡ false → inputs_since start ledger ++ inputs_in way ≡ ahead items

-- Whatever a front made of some items, and whatever part of that a ledger took.
abbrev pub EachPartIsLawful : Type 0
EachPartIsLawful =
    (start : LedgerState) (items : List Item) (closed stopped : Bool) (applied way : List Decision)
    (ledger : LedgerState) (answers : List ReplyValue) → AreDecisions items closed stopped (applied ++ way) →
    Commits start applied ledger answers → IsPartial start items stopped ledger answers way
