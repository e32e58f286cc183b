-- So far the events and the packets of each submitter are counted.
use Rattle.std.proofs.Common.{◌≡◌, length, take}
use Rattle.tb_layout.specs.claim.Bounds.{submitters_max}
use Rattle.tb_figures.proofs.Words.{IsSplit}
use Rattle.tb_figures.proofs.counts.Counts.add_batch.Given as goal

abbrev pub invariant-loop-stub : goal.invariant-loop-stub
invariant-loop-stub l =
    IsSplit (take l.stub-index l.stubs) l.initial.self l.self × (length l.self.submitters ≡ submitters_max)
