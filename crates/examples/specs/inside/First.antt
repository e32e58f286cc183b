-- What a submitter queued first, for two_tellers.
use Rattle.std.specs.Prelude.{◌≡◌, [], ◌∷◌}
use Rattle.tb_drive.specs.clauses.Seen.{IsPrefixOf}
use Rattle.tb_submit.specs.clauses.Ends.{EndedState}
use Rattle.tb_work.specs.claim.Packet.{Numbered}
use Rattle.tb_work.specs.declared.item.Item.TheVariants as item
use Rattle.tb_work.specs.declared.packet.Packet.{Packet}

-- the first item of a submitter that has ended is this packet, with number 0
abbrev pub QueuedFirst : Packet → EndedState → Type 0
QueuedFirst packet ended =
    (job : Numbered) × (job.packet ≡ packet) × (job.number ≡ 0) × IsPrefixOf (item.Packet job ∷ []) ended.queued
