use Rattle.std.proofs.Common.{false, subst, sym, rules}
use Rattle.tb_durable.proofs.Words.{Trees, IsLedgerFile}
use Rattle.tb_durable.proofs.Leaving.{leaves_rows}
use Rattle.tb_durable.proofs.RunLemmas.{some_kept}
use Rattle.tb_durable.proofs.ledger.DurableLedger.over.Goals as goal

pub returns-in-Ok-clause-kept : goal.returns-in-Ok-clause-kept
returns-in-Ok-clause-kept g c =
    let read = c.in-Ok.read.replaying in
    let store = c.read_ledger-read.new.table.store in
    let known = c.in-Ok.ensures in
    let some = some_kept (g.S.Store.view store) read.ledger known.stored known.committed known.goes_on in
    rw c.into_ledger.ensures (
      some.0,
      record {
        kept = some.1;
        entries = λ clean goes_on. known.file clean;
        openable = λ clean db left. (
          read.counts,
          subst (λ (t : Trees). IsLedgerFile (t 0) read.counts)
              (sym (g.met.S.Store.settled store db (known.stored clean known.goes_on).0.is_open left)) (known.file clean),
        );
        leaves = leaves_rows false some.1 known.goes_on (g.met.S.Store.settled store);
      },
    )

pub returns-in-Ok-clause-openable : goal.returns-in-Ok-clause-openable
returns-in-Ok-clause-openable g c = λ opens. (c.read_ledger-read.ensures.openable opens, tt)

pub returns-in-Ok-clause-rows : goal.returns-in-Ok-clause-rows
returns-in-Ok-clause-rows g c = search rules

pub returns-in-Ok-clause-settings : goal.returns-in-Ok-clause-settings
returns-in-Ok-clause-settings g c = search rules

pub returns-in-Ok-clause-told : goal.returns-in-Ok-clause-told
returns-in-Ok-clause-told g c = search rules

pub returns-in-Ok-clause-crash : goal.returns-in-Ok-clause-crash
returns-in-Ok-clause-crash g c = search rules

pub returns-in-Err-clause-rows : goal.returns-in-Err-clause-rows
returns-in-Err-clause-rows g c = search rules

pub returns-in-Err-clause-settings : goal.returns-in-Err-clause-settings
returns-in-Err-clause-settings g c = search rules

pub returns-in-Err-clause-told : goal.returns-in-Err-clause-told
returns-in-Err-clause-told g c = search rules

pub returns-in-Err-clause-crash : goal.returns-in-Err-clause-crash
returns-in-Err-clause-crash g c = search rules
