use Rattle.tb_batch.proofs.Groups.{offered_group}
use Rattle.tb_batch.proofs.batcher.Batcher.offer.Goals as goal

pub returns-then-takes-clause-stays_lawful : goal.returns-then-takes-clause-stays_lawful
returns-then-takes-clause-stays_lawful c =
    offered_group c.args.self.now c.join.new.self c.args.job c.join.result c.takes.ensures.lawful c.join.ensures
