-- Who may push what.
use Rattle.std.specs.Prelude.{ℕ, ◌+◌, ◌==◌, Bool, true, false, not, ◌&&◌, nat_lt, nat_le}
use Rattle.tb_work.specs.claim.Admission.{count_of}
use Rattle.tb_work.specs.declared.item.Item.{Item}
use Rattle.tb_work.specs.declared.item.Item.TheVariants.{Packet, Pulse, End, Close}
use Rattle.tb_world.specs.declared.sender.WorldSender.{WorldSender}

-- A submitter pushes its own packets, by their numbers and within the limit, and its End. The control, which is the
-- sender after the last submitter, pushes pulses, and its End or Close.
abbrev pub may_push_item : ℕ → ℕ → ℕ → WorldSender → Item → Bool
may_push_item limit submitters number sender (Packet job) =
    nat_lt number submitters && ((job.submitter == number)
    && ((job.number == sender.pushed) && nat_le (count_of job.packet) limit))
may_push_item limit submitters number sender (Pulse moment) = number == submitters
may_push_item limit submitters number sender End = nat_le number submitters
may_push_item limit submitters number sender Close = number == submitters

-- no sender pushes anything once it has ended
abbrev pub may_push : ℕ → ℕ → ℕ → WorldSender → Item → Bool
may_push limit submitters number sender item = not sender.ended && may_push_item limit submitters number sender item

abbrev pub newcomer : WorldSender
newcomer = record { pushed = 0; ended = false }

abbrev pub sender_after : WorldSender → Item → WorldSender
sender_after sender (Packet job) = record { pushed = sender.pushed + 1; ended = sender.ended }
sender_after sender (Pulse moment) = sender
sender_after sender End = record { pushed = sender.pushed; ended = true }
sender_after sender Close = record { pushed = sender.pushed; ended = true }
