use Rattle.std.proofs.Common.{subst, sym}
use Rattle.sqlite_trees.specs.Tree.{Trees}
use Rattle.tb_durable.specs.clauses.Entries.{IsLedgerFile}
use Rattle.tb_durable.proofs.Leaving.{leaves_rows}
use Rattle.tb_durable.proofs.RunLemmas.{shows_rows}
use Rattle.tb_durable.proofs.ledger.DurableLedger.shows_rows.Goals as goal

pub returns-clause-shows : goal.returns-clause-shows
returns-clause-shows g c = shows_rows (g.S.Store.view c.args.self.now.table.store) c.args.self.now.bare

pub returns-clause-file : goal.returns-clause-file
returns-clause-file g c = λ has entries clean goes_on.
    let store = c.args.self.now.table.store in
    let kept = (shows_rows (g.S.Store.view store) c.args.self.now.bare has clean goes_on).kept in
    record {
      kept = kept;
      entries = entries;
      openable = λ settled db left. (
        c.args.self.now.counts,
        subst (λ (t : Trees). IsLedgerFile (t 0) c.args.self.now.counts)
            (sym (g.met.S.Store.settled store db (has clean goes_on).0.is_open left)) (entries clean goes_on),
      );
      leaves = leaves_rows c.args.self.now.in_doubt kept goes_on (g.met.S.Store.settled store);
    }
