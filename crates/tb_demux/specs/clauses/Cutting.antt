-- The replies to the packets of one batch.
use Rattle.std.specs.Prelude.{◌≡◌, ◌≤◌, ℕ, ◌+◌, true, not, List, [], ◌∷◌, length, map}
use Rattle.std.specs.List.{list_all}
use Rattle.tb_layout.specs.claim.Bounds.{places_max}
use Rattle.tb_layout.specs.declared.failure.Failure.{Failure}
use Rattle.tb_layout.specs.claim.Failures.{RiseWithin, failures_within}
use Rattle.tb_layout.specs.declared.answer.Answer.{Answer}
use Rattle.tb_layout.specs.declared.answer.Answer.TheVariants.{Failures, Accounts}
use Rattle.tb_work.specs.declared.outcome.Outcome.{Outcome}
use Rattle.tb_work.specs.declared.outcome.Outcome.TheVariants.{Committed, Shutdown, Stopped}
use Rattle.tb_work.specs.claim.Admission.{count_of}
use Rattle.tb_work.specs.claim.Packet.{Numbered, ReplyValue}
use Rattle.tb_work.specs.claim.Answer.{reply_with}
use Rattle.tb_work.specs.claim.Job.{count_of_all, is_lookup}

-- the reply to one packet of a batch that failed so: its own failures, counted from its first event
abbrev pub reply_at : ℕ → ℕ → List Failure → Numbered → ReplyValue
reply_at place offset failures job =
    reply_with (Committed place (Failures (failures_within offset (count_of job.packet) failures))) job

-- packet after packet, each one place further and after the events of those before it
abbrev pub cut_replies_from : ℕ → ℕ → List Failure → List Numbered → List ReplyValue
cut_replies_from place offset failures [] = []
cut_replies_from place offset failures (job ∷ jobs) =
    reply_at place offset failures job ∷ cut_replies_from (place + 1) (offset + count_of job.packet) failures jobs

abbrev pub replies_with_answer : ℕ → Answer → List Numbered → List ReplyValue
replies_with_answer place (Failures failures) jobs = cut_replies_from place 0 failures jobs
replies_with_answer place (Accounts accounts) jobs = map (reply_with (Committed place (Accounts accounts))) jobs

-- the replies to the packets of a batch with this outcome
abbrev pub cut_replies : Outcome → List Numbered → List ReplyValue
cut_replies (Committed place answer) jobs = replies_with_answer place answer jobs
cut_replies Shutdown jobs = map (reply_with Shutdown) jobs
cut_replies Stopped jobs = map (reply_with Stopped) jobs

-- failures are the answer of packets with events, accounts that of the one lookup
abbrev pub IsAnswerToAll : Answer → List Numbered → Type 0
IsAnswerToAll (Failures failures) jobs =
    RiseWithin 0 (count_of_all jobs) failures × (list_all (λ job. not (is_lookup job.packet)) jobs ≡ true)
IsAnswerToAll (Accounts accounts) jobs =
    (job : Numbered) × (jobs ≡ job ∷ []) × (is_lookup job.packet ≡ true) × (length accounts ≤ count_of job.packet)

abbrev pub IsOutcomeOfAll : Outcome → List Numbered → Type 0
IsOutcomeOfAll (Committed place answer) jobs = (place + length jobs ≤ places_max) × IsAnswerToAll answer jobs
IsOutcomeOfAll other jobs = Unit {0}
