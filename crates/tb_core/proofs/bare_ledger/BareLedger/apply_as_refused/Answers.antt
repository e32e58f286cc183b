use Rattle.std.proofs.Common.{true}
use Rattle.tb_core.proofs.JournalGroups.{bare_applied}
use Rattle.tb_core.proofs.bare_ledger.BareLedger.apply_as_refused.Goals as goal

pub returns-clause-applying : goal.returns-clause-applying
returns-clause-applying c =
    bare_applied true c.args.self.now c.args.parcel c.refuse.result c.refuse.new.self c.refuse.ensures.some
    c.refuse.ensures.applied
