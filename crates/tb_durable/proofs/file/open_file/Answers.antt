use Rattle.tb_durable.proofs.OpenedFiles.{if_ok}
use Rattle.tb_durable.proofs.file.open_file.Goals as goal

pub returns-clause-opened : goal.returns-clause-opened
returns-clause-opened c = if_ok c.open_file_from.result (λ store is opened. (_, _, is opened)) c.open_file_from.ensures.opened
