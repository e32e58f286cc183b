use Rattle.tb_embed.proofs.EngineRun.{serving_is_lawful}
use Rattle.tb_embed.proofs.laws.serving_is_lawful.Goals as goal

pub returns : goal.returns
returns c = serving_is_lawful c.each_part_is_lawful.ensures c.run_is_lawful.ensures
