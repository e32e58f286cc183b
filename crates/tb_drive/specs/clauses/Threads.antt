-- What the threads of the senders are started with, and what they bring back.
use Rattle.std.specs.Prelude.{◌≡◌, ℕ, List, length, map}
use Rattle.std.specs.declared.thread.PromisedHandle.{PromisedHandle}
use Rattle.tb_submit.specs.clauses.Ends.{EndedState, SenderState}
use Rattle.tb_work.specs.declared.item.Item.{Item}
use Rattle.tb_work.specs.claim.Packet.{Numbered, ReplyValue}
use Rattle.tb_work.specs.declared.packet.Packet.{Packet}
use Rattle.tb_drive.specs.clauses.Seen.{HaveSeenEnds}
use Rattle.tb_drive.specs.clauses.Tasks.{AreResultsOf, ControlTaskState, SubmitterResultState, SubmitterTaskState}
use Rattle.tb_drive.specs.clauses.Plan.{with_items}
use Rattle.tb_drive.specs.declared.controlling.ControlResult.{ControlResult}
use Rattle.tb_drive.specs.declared.submitting.SubmitterPromise.{SubmitterPromise}

-- what a thread was started with
abbrev pub started_from : {D : Type 0} → PromisedHandle SubmitterResultState (SubmitterPromise D) → SubmitterTaskState
started_from handle = handle.promise.task.value

-- the threads of these tasks brought back these ends, and drivers that have seen them and ended
pub record HaveJoined {D : Type 0} (share : D → List Packet)
    (has_seen has_ended : D → ℕ → List Numbered → List ReplyValue → Type 0) (tasks : List SubmitterTaskState)
    (ends : List EndedState) (drivers : List D) : Type 0 where
  pub results : AreResultsOf tasks ends (map share drivers)
  pub number : length drivers ≡ length ends
  pub seen : HaveSeenEnds has_seen drivers ends
  pub ended : HaveSeenEnds has_ended drivers ends

-- ---- the control

-- the control has queued some items after what it had queued before, and they are so
abbrev pub HasQueued : SenderState → SenderState → (List Item → Type 0) → Type 0
HasQueued before control are = (items : List Item) × (control ≡ with_items before items) × are items

-- the control's thread leaves the end of this control, and its driver, which has ended with what was queued
abbrev pub IsControlResultOf : {C : Type 0} → (C → C → List Item → Type 0) → ControlTaskState C → ControlResult C → Type 0
IsControlResultOf has_ended task left =
    HasQueued task.control left.end (has_ended task.driver left.driver)
