-- Senders with their drivers, before their threads run and after.
use Rattle.std.specs.Prelude.{◌≡◌, Option, IfSome, List, map}
use Rattle.tb_submit.specs.clauses.Ends.{EndedState, Origin, SenderState, SubmitterState, end_origin, origin_of}
use Rattle.tb_work.specs.declared.packet.Packet.{Packet}
use Rattle.tb_drive.specs.clauses.Seen.{ArePrefixesOf, IsPrefixOf}

-- a submitter with its driver, whose share is seen
pub record SubmitterTaskState : Type 0 where
  pub submitter : SubmitterState
  pub share : List Packet

abbrev pub task_origin : SubmitterTaskState → Origin
task_origin task = origin_of task.submitter

abbrev pub task_submitter : SubmitterTaskState → SubmitterState
task_submitter task = task.submitter

abbrev pub task_share : SubmitterTaskState → List Packet
task_share task = task.share

-- the control with its driver
pub record ControlTaskState (C : Type 0) : Type 0 where
  pub control : SenderState
  pub driver : C

-- all senders of a run
pub record TasksState (C : Type 0) : Type 0 where
  pub submitters : List SubmitterTaskState
  pub control : ControlTaskState C

-- ---- what the submitters' threads return

pub record SubmitterResultState : Type 0 where
  pub ended : Option EndedState
  pub share : List Packet

-- a submitter's end, if there is one, has its origin, and what it queued before as the front part of all
abbrev pub IsEnd : SubmitterState → Option EndedState → Type 0
IsEnd submitter ended =
    IfSome ended (λ end. (end_origin end ≡ origin_of submitter) × IsPrefixOf submitter.queued end.queued)

-- a result is of this submitter and its driver
abbrev pub IsResultOf : SubmitterTaskState → SubmitterResultState → Type 0
IsResultOf task one = IsEnd task.submitter one.ended × (one.share ≡ task.share)

-- ends and shares are the results of these tasks, in order
pub record AreResultsOf (tasks : List SubmitterTaskState) (ends : List EndedState) (shares : List (List Packet))
    : Type 0 where
  pub own : map end_origin ends ≡ map task_origin tasks
  pub front : ArePrefixesOf (map task_submitter tasks) ends
  pub shares_are : shares ≡ map task_share tasks
