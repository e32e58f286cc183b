-- A packet as definitions see it.
use Rattle.std.specs.Prelude.{ℕ}
use Rattle.tb_layout.specs.claim.Events.{Events, events_of, Input}
use Rattle.tb_layout.specs.claim.Events as input
use Rattle.tb_work.specs.declared.outcome.Outcome.{Outcome}
use Rattle.tb_work.specs.declared.packet.Packet.{Packet}

pub record Numbered : Type 0 where
  pub submitter : ℕ
  pub number : ℕ
  pub packet : Packet

abbrev pub events_in : Packet → Events
events_in packet = events_of packet.operation packet.bytes

abbrev pub input_of : Numbered → Input
input_of job = input.Packet job.submitter job.number (events_in job.packet)

pub record ReplyValue : Type 0 where
  pub packet : Numbered
  pub outcome : Outcome
