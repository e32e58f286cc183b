-- What is printed of a script, and what `list` writes.
use Rattle.std.specs.Prelude.{ℕ, Bool, Result, Ok, Err, List, [], ◌∷◌, ◌++◌, codes, flat_map}
use Rattle.std.specs.Result.{is_ok}
use Rattle.tb_core.specs.claim.Due.{all_due}
use Rattle.tb_machine.specs.claim.Replay.{State, replay}
use Rattle.tb_machine.specs.clauses.Accounts.{balanced_accounts}
use Rattle.tb_work.specs.claim.Ahead.{ahead}
use Rattle.tb_work.specs.claim.Packet.{ReplyValue}
use Rattle.tb_program_text.specs.clauses.Output.{reply_line, refused_line, pulse_line, refused_pulse_line, clock_line, account_line}
use Rattle.tb_program_text.specs.clauses.Script.{ParsedScript, items_of, clock_of, limit_of}
use Rattle.tb_program_text.specs.clauses.Source.{source_in}
use Rattle.tb_program.specs.clauses.Plan.{PlanState, plan_of}
use Rattle.tb_program.specs.declared.list.listing.Line.{Line}
use Rattle.tb_program.specs.declared.list.listing.Line.TheVariants.{Packet, Pulse, Shut, RefusedPacket, RefusedPulse}

-- the clock, and the accounts in order of making
abbrev pub state_text : State → List ℕ
state_text state = clock_line state.clock ++ flat_map account_line (balanced_accounts state.facts)

-- the text of lines; a queued packet's is the next of the replies
unfoldable pub lines_text : List ReplyValue → List Line → List ℕ
lines_text replies [] = []
lines_text [] (Packet ∷ lines) = lines_text [] lines
lines_text (reply ∷ replies) (Packet ∷ lines) = reply_line reply ++ lines_text replies lines
lines_text replies (Pulse place ∷ lines) = pulse_line place ++ lines_text replies lines
lines_text replies (Shut ∷ lines) = codes "shut\n" ++ lines_text replies lines
lines_text replies (RefusedPacket submitter refusal ∷ lines) = refused_line submitter refusal ++ lines_text replies lines
lines_text replies (RefusedPulse ∷ lines) = refused_pulse_line ++ lines_text replies lines

-- all that is queued ahead of the Close is committed, from a clock on, and each packet gets the reply due to it
abbrev pub plan_text : ℕ → PlanState → List ℕ
plan_text clock plan =
    let inputs = ahead plan.queue in
    lines_text (all_due clock 0 plan.queue inputs) plan.lines ++ state_text (replay clock inputs)

abbrev pub listing : ParsedScript → List ℕ
listing parsed = plan_text (clock_of parsed.settings) (plan_of (limit_of parsed.settings) (items_of parsed))

-- a script's lines, or the one of its fault
abbrev pub text_of_source : Result ParsedScript (List ℕ) → List ℕ
text_of_source (Ok parsed) = listing parsed
text_of_source (Err line) = line

-- the output for the bytes of a script
abbrev pub out : List ℕ → List ℕ
out bytes = text_of_source (source_in bytes)

-- whether a script has no fault
abbrev pub is_faultless : List ℕ → Bool
is_faultless bytes = is_ok (source_in bytes)
