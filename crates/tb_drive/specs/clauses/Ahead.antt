-- A submitter with one packet more.
use Rattle.std.specs.Prelude.{ℕ}
use Rattle.tb_submit.specs.clauses.Ends.{SubmitterState, with_item}
use Rattle.tb_work.specs.claim.Job.{numbered_packet}
use Rattle.tb_work.specs.declared.item.Item.TheVariants as item
use Rattle.tb_work.specs.declared.packet.Packet.{Packet}

-- what the submitter queued, and then this packet with this number
abbrev pub with_packet : SubmitterState → ℕ → Packet → SubmitterState
with_packet submitter number packet =
    with_item submitter (item.Packet (numbered_packet submitter.origin.seat.number number packet))
