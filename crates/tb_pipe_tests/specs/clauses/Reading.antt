-- A driver that counts the packets whose replies it hasn't read.
use Rattle.std.specs.Prelude.{◌≡◌, ◌+◌, ◌≤◌, ℕ, [], List, Some, length, slice_get}
use Rattle.tb_drive.specs.clauses.Seen.{jobs_in}
use Rattle.tb_submit.specs.clauses.Ends.{EndedState, SenderState, SubmitterState, queued_by}
use Rattle.tb_work.specs.claim.Packet.{Numbered, ReplyValue}

-- No more replies were read than packets queued. The driver counts the others, unless it says that its count isn't exact.
pub record HasRead (exact : Type 0) (unread : ℕ) (queued : List Numbered) (read : List ReplyValue) : Type 0 where
  pub fewer : length read ≤ length queued
  pub count : exact → unread + length read ≡ length queued

-- a reply was read for each packet that was queued
abbrev pub HasReadAll : Type 0 → List Numbered → List ReplyValue → Type 0
HasReadAll exact queued read = exact → length read ≡ length queued

-- a submitter has queued and read nothing
abbrev pub IsIdle : SubmitterState → Type 0
IsIdle submitter = (submitter.queued ≡ []) × (submitter.read ≡ [])

-- The end of each driver has read a reply for each packet that its submitter queued, if the driver's count is exact. What
-- the submitters queued is in the ends from before they were settled.
abbrev pub HaveReadAll : {D : Type 0} → (D → Type 0) → List D → List EndedState → SenderState → List EndedState → Type 0
HaveReadAll {D} exact drivers unsettled control ends =
    (k : ℕ) (driver : D) (ended : EndedState) → slice_get drivers k ≡ Some driver → slice_get ends k ≡ Some ended
    → HasReadAll (exact driver) (jobs_in (queued_by unsettled control k)) ended.read
