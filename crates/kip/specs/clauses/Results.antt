-- A reply as C reads it.
use Rattle.std.specs.Prelude.{◌≡◌, ℕ, ◌*◌, List, [], ◌++◌, length, drop}
use Rattle.std.specs.List.{flat_map}
use Rattle.tb_layout.specs.clauses.Records.{account_bytes}
use Rattle.tb_layout.specs.clauses.Failure.{failure_bytes}
use Rattle.tb_layout.specs.declared.answer.Answer.{Answer}
use Rattle.tb_layout.specs.declared.answer.Answer.TheVariants.{Failures, Accounts}
use Rattle.tb_work.specs.claim.Packet.{ReplyValue}
use Rattle.tb_work.specs.declared.outcome.Outcome.{Outcome}
use Rattle.tb_work.specs.declared.outcome.Outcome.TheVariants.{Committed, Shutdown, Stopped}
use Rattle.tb_embed.specs.clauses.Recorded.{place_in}
use Rattle.kip.specs.declared.reading.KipReply.{KipReply}

-- the bytes of an answer: 8 for each failure, or 128 for each account
abbrev pub answer_bytes : Answer → List ℕ
answer_bytes (Failures failures) = flat_map failure_bytes failures
answer_bytes (Accounts accounts) = flat_map account_bytes accounts

-- a packet that isn't committed has no results
abbrev pub result_bytes : Outcome → List ℕ
result_bytes (Committed place answer) = answer_bytes answer
result_bytes other = []

abbrev pub answer_size : Answer → ℕ
answer_size (Failures failures) = 8 * length failures
answer_size (Accounts accounts) = 128 * length accounts

abbrev pub result_size : Outcome → ℕ
result_size (Committed place answer) = answer_size answer
result_size other = 0

-- these bytes were written at the start of a buffer
abbrev pub AreWritten : List ℕ → ℕ → List ℕ → List ℕ → Type 0
AreWritten bytes size old new = new ≡ bytes ++ drop size old

abbrev pub number_of_outcome : Outcome → ℕ
number_of_outcome (Committed place answer) = 0
number_of_outcome Shutdown = 7
number_of_outcome Stopped = 8

-- the head describes this reply
pub record IsHeadOf (head : KipReply) (reply : ReplyValue) : Type 0 where
  pub submitter : head.submitter ≡ reply.packet.submitter
  pub number : head.number ≡ reply.packet.number
  pub operation : head.operation ≡ reply.packet.packet.operation
  pub user : head.user_data ≡ reply.packet.packet.user
  pub outcome : head.outcome ≡ number_of_outcome reply.outcome
  pub place : head.place ≡ place_in reply.outcome
  pub size : head.size ≡ result_size reply.outcome
