use Rattle.tb_durable.proofs.Recovered.{recovered}
use Rattle.tb_durable.proofs.ledger.DurableLedger.recovers.Goals as goal

pub returns : goal.returns
returns g c = recovered (g.S.Store.recovers c.args.self.now.table.store)
