use Rattle.std.proofs.Common.{◌≡◌, length}
use Rattle.tb_program.proofs.Words.{AreDealt, moments_asked, shuts_in}
use Rattle.tb_program.proofs.run.share.share_out.Given as goal

abbrev pub invariant-loop-item : goal.invariant-loop-item
invariant-loop-item l = record {
  number : length l.shares.packets.items ≡ l.submitters;
  packets : AreDealt 0 l.shares.packets.items l.yielded;
  moments : l.shares.lines.moments.items ≡ moments_asked l.yielded;
  shuts : l.shares.lines.shuts ≡ shuts_in l.yielded;
}
