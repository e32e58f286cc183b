use Rattle.std.proofs.Common.{◌≡◌, [], length}
use Rattle.tb_program.proofs.Words.{AreDealt}
use Rattle.tb_program.proofs.run.share.Shares.new.Given as goal

abbrev pub invariant-loop : goal.invariant-loop
invariant-loop l = record {
  number : length l.packets.items ≡ l.counter;
  packets : AreDealt 0 l.packets.items [];
}
