use Rattle.sqlite_store.specs.FileStore as file
use Rattle.tb_durable.proofs.OpenedFiles.{if_ok}
use Rattle.tb_durable.proofs.file.open_file_from.Goals as goal

pub returns-clause-opened : goal.returns-clause-opened
returns-clause-opened g c = if_ok c.store_of.result (λ store has opened.
    let it = has opened in
    let finds = c.in_ok-conn.ensures.found it.clean in
    record { found = (file.view c.in_ok-conn.conn.store).committed; holds = finds.holds; reads = finds.reads; kept = it.kept; table = it.table })
    c.store_of.ensures.prepared
