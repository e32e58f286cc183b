use Rattle.std.proofs.Common.{map}
use Rattle.tb_drive.proofs.Words.{HaveJoined, started_from}
use Rattle.tb_drive.proofs.threads.SubmitterThreads.join.Given as goal

abbrev pub invariant-loop-handle : goal.invariant-loop-handle
invariant-loop-handle g l =
    HaveJoined g.D.Driver.share g.D.Driver.has_seen g.D.Driver.has_ended (map started_from l.yielded) l.ends.items
    l.drivers.items
