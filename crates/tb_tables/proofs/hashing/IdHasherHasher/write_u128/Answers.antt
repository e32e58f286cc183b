use Rattle.std.proofs.Common.{rules}
use Rattle.tb_tables.proofs.IdBytes.{ids_of-id}
use Rattle.tb_tables.proofs.hashing.IdHasherHasher.write_u128.Goals as goal

pub returns-clause-fed : goal.returns-clause-fed
returns-clause-fed c =
    rw (ids_of-id c.args.id c.ranges.id.fits) (search rules)
