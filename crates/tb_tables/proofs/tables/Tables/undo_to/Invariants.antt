use Rattle.std.proofs.Common.{◌≡◌, ◌≤◌}
use Rattle.tb_tables.proofs.Words.{mark_of, back_to}
use Rattle.tb_tables.proofs.tables.Tables.undo_to.Given as goal

abbrev pub invariant-loop-mark : goal.invariant-loop-mark
invariant-loop-mark l = record {
  within : l.mark ≤ mark_of l.self;
  same : back_to l.mark l.self ≡ back_to l.mark l.fn.self;
}

abbrev pub decreases-loop-mark : goal.decreases-loop-mark
decreases-loop-mark l = mark_of l.self
