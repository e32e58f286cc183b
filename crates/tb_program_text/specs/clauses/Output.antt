-- The lines that are printed.
use Rattle.std.specs.Prelude.{ℕ, List, ◌++◌, codes, decimal, flat_map}
use Rattle.tb_layout.specs.declared.account.Account.{Account}
use Rattle.tb_layout.specs.declared.failure.Failure.{Failure}
use Rattle.tb_layout.specs.declared.answer.Answer.{Answer}
use Rattle.tb_layout.specs.declared.answer.Answer.TheVariants.{Failures, Accounts}
use Rattle.tb_work.specs.clauses.Refusal.{number_of, name_of}
use Rattle.tb_work.specs.claim.Packet.{ReplyValue}
use Rattle.tb_work.specs.declared.outcome.Outcome.{Outcome}
use Rattle.tb_work.specs.declared.outcome.Outcome.TheVariants.{Committed, Shutdown, Stopped}
use Rattle.tb_work.specs.declared.refusal.Refusal.{Refusal}

abbrev pub fault_line : ℕ → List ℕ → List ℕ
fault_line number text = codes "fault " ++ decimal number ++ codes " " ++ text ++ codes "\n"

unfoldable pub refused_line : ℕ → Refusal → List ℕ
refused_line submitter refusal =
    codes "packet " ++ decimal submitter ++ codes " refused " ++ decimal (number_of refusal) ++ codes " "
    ++ name_of refusal ++ codes "\n"

abbrev pub failure_text : Failure → List ℕ
failure_text failure = codes " " ++ decimal failure.index ++ codes ":" ++ decimal failure.code

unfoldable pub found_debits : Account → List ℕ
found_debits account =
    codes " " ++ decimal account.id ++ codes ":" ++ decimal account.debits_pending ++ codes ":"
    ++ decimal account.debits_posted

unfoldable pub found_credits : Account → List ℕ
found_credits account = codes ":" ++ decimal account.credits_pending ++ codes ":" ++ decimal account.credits_posted

abbrev pub found_text : Account → List ℕ
found_text account = found_debits account ++ found_credits account

abbrev pub answer_text : Answer → List ℕ
answer_text (Failures failures) = flat_map failure_text failures
answer_text (Accounts accounts) = flat_map found_text accounts

abbrev pub outcome_text : Outcome → List ℕ
outcome_text (Committed place answer) = codes " committed " ++ decimal place ++ answer_text answer
outcome_text Shutdown = codes " shutdown"
outcome_text Stopped = codes " stopped"

unfoldable pub packet_front : ℕ → ℕ → List ℕ
packet_front submitter number = codes "packet " ++ decimal submitter ++ codes " " ++ decimal number

-- the line of a packet that was queued
abbrev pub reply_line : ReplyValue → List ℕ
reply_line reply = packet_front reply.packet.submitter reply.packet.number ++ outcome_text reply.outcome ++ codes "\n"

unfoldable pub pulse_line : ℕ → List ℕ
pulse_line place = codes "pulse " ++ decimal place ++ codes "\n"

abbrev pub refused_pulse_line : List ℕ
refused_pulse_line = codes "pulse refused 12 MomentTooLarge\n"

abbrev pub clock_line : ℕ → List ℕ
clock_line clock = codes "clock " ++ decimal clock ++ codes "\n"

unfoldable pub account_front : ℕ → ℕ → List ℕ
account_front id timestamp = codes "account " ++ decimal id ++ codes " " ++ decimal timestamp

unfoldable pub balances_text : Account → List ℕ
balances_text account =
    codes " " ++ decimal account.debits_pending ++ codes " " ++ decimal account.debits_posted ++ codes " "
    ++ decimal account.credits_pending
    ++ codes " " ++ decimal account.credits_posted ++ codes "\n"

abbrev pub account_line : Account → List ℕ
account_line account = account_front account.id account.timestamp ++ balances_text account
