-- Whether memory ran out, line by line.
use Rattle.std.specs.Prelude.{Bool, true, false, List, [], ◌∷◌}
use Rattle.tb_core.specs.claim.EndedRun.{is_stopped}
use Rattle.tb_core.specs.declared.journal.Entry.{Entry}
use Rattle.tb_core.specs.declared.journal.Entry.TheVariants.{Batch, Pulse}
use Rattle.tb_work.specs.claim.Packet.{ReplyValue}
use Rattle.tb_program.specs.clauses.RunText.{is_refused_memory}
use Rattle.tb_program.specs.declared.run.notes.PacketResult.{PacketResult}
use Rattle.tb_program.specs.declared.run.notes.PacketResult.TheVariants.{Queued, Refused}

-- memory ran out for a packet: the next reply, which is its own, is Stopped, or it was refused as NoMemory
abbrev pub is_lost : PacketResult → List ReplyValue → Bool
is_lost Queued [] = false
is_lost Queued (reply ∷ replies) = is_stopped reply.outcome
is_lost (Refused refusal) replies = is_refused_memory (Refused refusal)

abbrev pub is_pulse : Entry → Bool
is_pulse (Batch operation body stubs) = false
is_pulse (Pulse moment) = true
