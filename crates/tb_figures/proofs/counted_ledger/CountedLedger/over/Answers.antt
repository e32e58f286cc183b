use Rattle.std.proofs.Common.{[], append-nil, sym}
use Rattle.tb_figures.proofs.counted_ledger.CountedLedger.over.Goals as goal

pub returns-clause-counted : goal.returns-clause-counted
returns-clause-counted g c state own = record {
  own = own;
  last = record { before = state.groups; last = []; groups = sym (append-nil state.groups); counted = c.new.ensures };
}
