use Rattle.tb_embed.proofs.TruePlaces.{places_are_true}
use Rattle.tb_embed.proofs.laws.places_are_true.Goals as goal

pub returns : goal.returns
returns c = places_are_true c.serving_is_lawful.ensures
