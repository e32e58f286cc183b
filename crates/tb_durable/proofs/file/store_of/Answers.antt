use Rattle.tb_durable.proofs.OpenedFiles.{clean_if_open, prepared}
use Rattle.tb_durable.proofs.file.store_of.Goals as goal

pub returns-in-Ok-clause-prepared : goal.returns-in-Ok-clause-prepared
returns-in-Ok-clause-prepared g c = λ opened.
    let now = g.S.Store.view c.prepare.new.store in
    let clean = clean_if_open now (g.met.S.Store.shut_if_dirty c.prepare.new.store) opened in
    prepared c.into_store-store.ensures.undone c.into_store-store.ensures.quiet.clean c.in-Ok.ensures.clean clean opened
    (c.in-Ok.ensures.kept clean)
