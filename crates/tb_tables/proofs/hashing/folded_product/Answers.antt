use Rattle.std.proofs.Common.{rules}
use Rattle.tb_tables.specs.inside.Hashing.{folded}
use Rattle.tb_tables.proofs.hashing.folded_product.Goals as goal

pub returns : goal.returns
unfolding folded
returns c = search rules
