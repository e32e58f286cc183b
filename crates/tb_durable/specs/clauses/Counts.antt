-- How many packets of each submitter are stored.
use Rattle.std.specs.Prelude.{◌+◌, ◌^◌, ◌==◌, ◌&&◌, ◌||◌, Bool, nat_lt, List, [], ◌∷◌, Option, Some, None, replicate, slice_index_or, slice_set, if◌then◌else◌}
use Rattle.tb_layout.specs.claim.Bounds.{submitters_max}
use Rattle.tb_work.specs.declared.stub.Stub.{Stub}
use Rattle.tb_durable.specs.declared.counts.PacketCounts.{PacketCounts}

-- the counts of an empty journal
abbrev pub no_packets : PacketCounts
no_packets = record { packets = replicate submitters_max 0; numbers = replicate submitters_max 0 }

-- Whether a packet follows its submitter's last: it has the submitter's next number, or 0, with which a run begins; whether one does
-- isn't asked. There are 16 submitters, and numbers and counts have 64 bits.
abbrev pub follows : PacketCounts → Stub → Bool
follows counts stub =
    nat_lt stub.submitter submitters_max
    && ((stub.number == 0 || stub.number == slice_index_or counts.numbers stub.submitter 0)
    && (nat_lt (stub.number + 1) (2 ^ 64) && nat_lt (slice_index_or counts.packets stub.submitter 0 + 1) (2 ^ 64)))

-- the counts with one packet more
abbrev pub counted : PacketCounts → Stub → PacketCounts
counted counts stub =
    record {
      packets = slice_set counts.packets stub.submitter (slice_index_or counts.packets stub.submitter 0 + 1);
      numbers = slice_set counts.numbers stub.submitter (stub.number + 1);
    }

-- the counts with these packets more, in order; None if one of them doesn't follow
unfoldable pub counted_all : PacketCounts → List Stub → Option PacketCounts
counted_all counts [] = Some counts
counted_all counts (stub ∷ stubs) = if follows counts stub then counted_all (counted counts stub) stubs else None
