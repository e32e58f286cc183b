use Rattle.std.proofs.Common.{subst, sym}
use Rattle.tb_durable.proofs.Words.{Trees, IsLedgerFile}
use Rattle.tb_durable.proofs.ledger.DurableLedger.can_be_opened.Goals as goal

pub returns : goal.returns
returns g c = λ has entries clean goes_on db left. (
  c.args.self.now.counts,
  subst (λ (t : Trees). IsLedgerFile (t 0) c.args.self.now.counts)
      (sym (g.met.S.Store.settled c.args.self.now.table.store db (has clean goes_on).0.is_open left)) (entries clean goes_on),
)
