use Rattle.std.proofs.Common.{◌≡◌, drop}
use Rattle.tb_durable.specs.clauses.Counts.{counted_all}
use Rattle.tb_durable.proofs.counts.PacketCounts.count_all.Given as goal

-- the packets that are left, counted from what is counted so far, give what all packets give
abbrev pub invariant-loop-stub : goal.invariant-loop-stub
invariant-loop-stub l =
    counted_all l.self (drop l.stub-index l.stubs) ≡ counted_all l.fn.self l.stubs
