-- A packet that a bare ledger commits alone.
use Rattle.std.specs.Prelude.{◌+◌, true, if◌then◌else◌}
use Rattle.tb_machine.specs.claim.Replay.{after_packet, answer_of}
use Rattle.tb_work.specs.claim.Answer.{reply_with}
use Rattle.tb_work.specs.claim.Packet.{Numbered, ReplyValue, events_in}
use Rattle.tb_work.specs.declared.outcome.Outcome.TheVariants.{Committed, Stopped}
use Rattle.tb_core.specs.claim.BareLedger.{BareLedgerState, halts}

-- its reply: Stopped if the ledger had stopped or has no place for it
abbrev pub reply_alone : BareLedgerState → Numbered → ReplyValue
reply_alone bare job =
    if halts bare 1 then reply_with Stopped job
    else reply_with (Committed bare.places (answer_of bare.state (events_in job.packet))) job

-- the ledger after it
abbrev pub after_alone : BareLedgerState → Numbered → BareLedgerState
after_alone bare job =
    if halts bare 1 then record bare { stopped = true }
    else record bare { places = bare.places + 1; state = after_packet bare.state (events_in job.packet) }
