use Rattle.tb_durable.proofs.StoreLemmas.{without_memory}
use Rattle.tb_durable.proofs.table.Table.put_settings.Goals as goal

pub returns-then-is_err : goal.returns-then-is_err
returns-then-is_err g c = without_memory c.no_memory.ensures.in_doubt c.no_memory.ensures.told
