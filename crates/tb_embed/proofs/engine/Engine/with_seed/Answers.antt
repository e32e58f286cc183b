use Rattle.tb_embed.proofs.Opened.{opened_new}
use Rattle.tb_embed.proofs.engine.Engine.with_seed.Goals as goal

pub returns-in-Ok-clause-opened : goal.returns-in-Ok-clause-opened
returns-in-Ok-clause-opened c =
    opened_new c.args.clock c.args.limit c.args.submitters c.in-Ok.engine c.with_seed-ledger.result
    c.with_seed-ledger.ensures.new c.in-Ok.ensures.opened
