use Rattle.std.proofs.Common.{rules}
use Rattle.tb_core.proofs.Alone.{alone_sent}
use Rattle.tb_core.proofs.bare_ledger.BareLedger.try_alone.Goals as goal

pub returns-then-halts_at-clause-sent : goal.returns-then-halts_at-clause-sent
returns-then-halts_at-clause-sent c = alone_sent c.args.job c.packet.ensures.admitted (search rules) (search rules)

pub returns-clause-sent : goal.returns-clause-sent
returns-clause-sent c = alone_sent c.args.job c.packet.ensures.admitted (search rules) (search rules)
