use Rattle.tb_embed.proofs.Again.{journal_restores}
use Rattle.tb_embed.proofs.laws.journal_restores.Goals as goal

pub returns : goal.returns
returns c = journal_restores c.serving_is_lawful.ensures
