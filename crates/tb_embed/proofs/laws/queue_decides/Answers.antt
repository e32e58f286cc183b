use Rattle.tb_embed.proofs.Again.{queue_decides}
use Rattle.tb_embed.proofs.laws.queue_decides.Goals as goal

pub returns : goal.returns
returns c = queue_decides c.serving_is_lawful.ensures
