-- The bounds that packets, moments and counts keep.
use Rattle.std.specs.Prelude.{ℕ, ◌+◌, ◌^◌}

-- the most events of a batch
abbrev pub batch_max : ℕ
batch_max = 8190

-- the largest capacity of a submission queue, and the greatest credit of a submitter
abbrev pub capacity_max : ℕ
capacity_max = 65536

-- the greatest moment of a pulse, in nanoseconds
abbrev pub moment_max : ℕ
moment_max = 2 ^ 62

-- the most packets that a submitter queues, or pulses that the control does
abbrev pub queued_max : ℕ
queued_max = 2 ^ 56

-- the most places of a journal, for committed packets and pulses
abbrev pub places_max : ℕ
places_max = 2 ^ 63

-- the most submitters of a front
abbrev pub submitters_max : ℕ
submitters_max = 16

-- the most senders of a front: its submitters and the control
abbrev pub senders_max : ℕ
senders_max = submitters_max + 1
