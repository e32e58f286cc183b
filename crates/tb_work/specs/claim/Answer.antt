-- What may be answered to a packet, and its reply.
use Rattle.std.specs.Prelude.{◌≡◌, ◌≤◌, true, length}
use Rattle.tb_layout.specs.claim.Failures.{RiseWithin}
use Rattle.tb_work.specs.declared.packet.Packet.{Packet}
use Rattle.tb_layout.specs.declared.answer.Answer.{Answer}
use Rattle.tb_layout.specs.declared.answer.Answer.TheVariants.{Failures, Accounts}
use Rattle.tb_work.specs.declared.outcome.Outcome.{Outcome}
use Rattle.tb_work.specs.declared.outcome.Outcome.TheVariants.{Committed}
use Rattle.tb_work.specs.claim.Admission.{count_of}
use Rattle.tb_work.specs.claim.Job.{is_lookup}
use Rattle.tb_work.specs.claim.Packet.{Numbered, ReplyValue}

abbrev pub reply_with : Outcome → Numbered → ReplyValue
reply_with outcome job = record { packet = job; outcome = outcome }

-- failures rise below the packet's count; accounts are the answer to a lookup, and are no more than its ids
abbrev pub IsAnswerTo : Packet → Answer → Type 0
IsAnswerTo packet (Failures failures) = RiseWithin 0 (count_of packet) failures
IsAnswerTo packet (Accounts accounts) = (is_lookup packet ≡ true) × (length accounts ≤ count_of packet)

abbrev pub IsOutcomeOf : Packet → Outcome → Type 0
IsOutcomeOf packet (Committed place answer) = IsAnswerTo packet answer
IsOutcomeOf packet other = Unit {0}
