use Rattle.std.proofs.Common.{◌∙◌, sym}
use Rattle.tb_figures.proofs.LedgerLemmas.{counts_on, counts_stay}
use Rattle.tb_figures.proofs.counted_ledger.CountedLedgerAnyLedger.apply.Goals as goal

pub returns-then-not-stopped : goal.returns-then-not-stopped
returns-then-not-stopped g c = record {
  applied = counts_on g.L.AnyLedger.is c.args.self.now.ledger c.apply-outcomes.new.self
      c.args.self.now.counts c.with_parcel-counts.result c.args.parcel c.apply-outcomes.result
      c.apply-outcomes.ensures.applied c.with_parcel-counts.ensures
      (λ state own. sym (c.stopped.ensures.stopped state own) ∙ c.if-not-stopped.true);
}

pub returns-else-not-stopped : goal.returns-else-not-stopped
returns-else-not-stopped g c = record {
  applied = counts_stay g.L.AnyLedger.is c.args.self.now.ledger c.apply-outcomes.new.self
      c.args.self.now.counts c.args.self.now.counts c.args.parcel c.apply-outcomes.result
      c.apply-outcomes.ensures.applied (λ state own. sym (c.stopped.ensures.stopped state own) ∙ c.if-not-stopped.false);
}
