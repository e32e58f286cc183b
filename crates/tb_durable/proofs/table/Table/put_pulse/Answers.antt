use Rattle.tb_durable.proofs.StoreLemmas.{without_memory}
use Rattle.tb_durable.proofs.table.Table.put_pulse.Goals as goal

pub returns-then-is_err-clause-stores : goal.returns-then-is_err-clause-stores
returns-then-is_err-clause-stores g c = without_memory c.no_memory.ensures.in_doubt c.no_memory.ensures.told
