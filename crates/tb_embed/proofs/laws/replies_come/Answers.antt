use Rattle.tb_embed.proofs.Replies.{replies_come}
use Rattle.tb_embed.proofs.laws.replies_come.Goals as goal

pub returns : goal.returns
returns c = replies_come c.serving_is_lawful.ensures
