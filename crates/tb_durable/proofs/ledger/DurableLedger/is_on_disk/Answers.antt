use Rattle.std.proofs.Common.{sym, ap, subst}
use Rattle.tb_durable.proofs.Words.{Trees, IsJournal}
use Rattle.tb_durable.proofs.ledger.DurableLedger.is_on_disk.Goals as goal

pub returns-clause-journal : goal.returns-clause-journal
returns-clause-journal g c = λ has clean goes_on db left.
    let at_rest = has clean goes_on in
    subst (λ (t : Trees). IsJournal (t 0) c.args.self.now.bare)
    (sym (g.met.S.Store.settled c.args.self.now.table.store db at_rest.0.is_open left)) at_rest.1

pub returns-clause-rows : goal.returns-clause-rows
returns-clause-rows g c = λ has clean goes_on db left.
    ap (λ (t : Trees). t 0) (g.met.S.Store.settled c.args.self.now.table.store db (has clean goes_on).0.is_open left)
