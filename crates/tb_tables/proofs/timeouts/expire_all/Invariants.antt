use Rattle.std.proofs.Common.{◌≡◌, [], length}
use Rattle.tb_tables.proofs.Words.{Facts, is_in_expiries, AreContained}
use Rattle.tb_tables.proofs.Due.{StillDue}
use Rattle.tb_tables.proofs.timeouts.expire_all.Given as goal

abbrev pub invariant-loop-index : goal.invariant-loop-index
invariant-loop-index l = record {
  kept : l.expiries.fresh ≡ [];
  due : (facts : Facts) → AreContained l.fn.accounts.entries l.fn.transfers (is_in_expiries l.fn.expiries) facts
      → StillDue l.clock facts l.accounts.entries l.transfers (is_in_expiries l.expiries);
}

abbrev pub decreases-loop-index : goal.decreases-loop-index
decreases-loop-index l = length l.expiries.kept
