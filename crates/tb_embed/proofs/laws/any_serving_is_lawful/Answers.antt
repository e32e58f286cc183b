use Rattle.tb_embed.proofs.AnyRun.{any_serving_is_lawful}
use Rattle.tb_embed.proofs.laws.any_serving_is_lawful.Goals as goal

pub returns : goal.returns
returns g c = any_serving_is_lawful c.each_part_is_lawful.ensures c.run_is_lawful.ensures g.L.AnyLedger.is
