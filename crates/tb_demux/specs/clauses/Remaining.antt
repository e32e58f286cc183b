-- What a cutter has left.
use Rattle.std.specs.Prelude.{◌≡◌, ◌≤◌, ◌+◌, true, not, List, [], ◌∷◌, length, map, drop}
use Rattle.std.specs.List.{list_all}
use Rattle.tb_layout.specs.claim.Bounds.{places_max}
use Rattle.tb_layout.specs.declared.failure.Failure.{Failure}
use Rattle.tb_layout.specs.claim.Failures.{RiseWithin}
use Rattle.tb_work.specs.declared.outcome.Outcome.{Outcome}
use Rattle.tb_work.specs.declared.outcome.Outcome.TheVariants.{Shutdown as ShutdownOutcome, Stopped as StoppedOutcome}
use Rattle.tb_work.specs.claim.Answer.{IsOutcomeOf, reply_with}
use Rattle.tb_work.specs.claim.Packet.{Numbered, ReplyValue}
use Rattle.tb_work.specs.claim.Job.{count_of_all, is_lookup}
use Rattle.tb_demux.specs.declared.remaining_failures.RemainingFailures.{RemainingFailures}
use Rattle.tb_demux.specs.declared.source.ReplySource.{ReplySource}
use Rattle.tb_demux.specs.declared.source.ReplySource.TheVariants.{Failures, Lookup, Shutdown, Stopped}
use Rattle.tb_demux.specs.clauses.Cutting.{cut_replies_from}

-- the failures not yet given
abbrev pub failures_remaining : RemainingFailures → List Failure
failures_remaining rest = drop rest.taken rest.failures

-- the failures left are those of the packets still to come
pub record AreRemaining (rest : RemainingFailures) (jobs : List Numbered) : Type 0 where
  pub places : rest.place + length jobs ≤ places_max
  pub taken : rest.taken ≤ length rest.failures
  pub rise : RiseWithin rest.offset (rest.offset + count_of_all jobs) (failures_remaining rest)
  pub no_lookup : list_all (λ job. not (is_lookup job.packet)) jobs ≡ true

-- the answer of a lookup goes to one packet
pub record IsForOne (outcome : Outcome) (jobs : List Numbered) : Type 0 where
  pub one : length jobs ≤ 1
  pub fits : (job : Numbered) → jobs ≡ job ∷ [] → IsOutcomeOf job.packet outcome

abbrev pub IsSourceOf : ReplySource → List Numbered → Type 0
IsSourceOf (Failures rest) jobs = AreRemaining rest jobs
IsSourceOf (Lookup outcome) jobs = IsForOne outcome jobs
IsSourceOf Shutdown jobs = Unit {0}
IsSourceOf Stopped jobs = Unit {0}

-- the replies to the packets still to come
abbrev pub replies_remaining : ReplySource → List Numbered → List ReplyValue
replies_remaining (Failures rest) jobs = cut_replies_from rest.place rest.offset (failures_remaining rest) jobs
replies_remaining (Lookup outcome) jobs = map (reply_with outcome) jobs
replies_remaining Shutdown jobs = map (reply_with ShutdownOutcome) jobs
replies_remaining Stopped jobs = map (reply_with StoppedOutcome) jobs
